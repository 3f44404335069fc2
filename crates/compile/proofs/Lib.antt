-- Laws of `compile`.
pub mod Expansions
