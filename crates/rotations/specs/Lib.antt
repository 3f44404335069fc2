-- What the contracts of `rotations` cite.
pub mod Packed
