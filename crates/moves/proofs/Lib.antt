-- Laws of what packed rotations move a string to, and of the parity by which it is found.
pub mod Parity
pub mod Moves
