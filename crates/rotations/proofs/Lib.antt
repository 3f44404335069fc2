-- Laws of the packed rotations that belong to no one function.
pub mod Packed
