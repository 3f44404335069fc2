-- What the contracts of `natives` cite. `Kept` and `Arrays` are what the crates above read; `Packed`, `Chains` and `Cells` say how it is done.
pub mod Kept
pub mod Arrays
pub mod Packed
pub mod Chains
pub mod Cells
