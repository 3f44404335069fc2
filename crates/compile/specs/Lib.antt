-- What the contracts of `compile` cite.
pub mod Expansions
