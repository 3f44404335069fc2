-- A law that the proof of a C function needs.
pub mod Narrow
