-- What the contracts of `moves` cite.
pub mod Moves
