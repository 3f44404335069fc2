-- What the contracts of the C functions cite.
pub mod Flat
