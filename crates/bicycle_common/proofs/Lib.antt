-- Laws that belong to no one function.
pub mod Tests
pub mod Ranges
pub mod Filled
pub mod Letters
pub mod Automorphisms
