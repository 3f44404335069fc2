-- Laws of the kept natives, and of how strings and flags are formed.
pub mod Kept
pub mod Arrays
pub mod Words
pub mod Grids
pub mod Chains
pub mod Shown
