-- The promises, in document 01's words. Each file stands by itself; the proofs under it are in the crates that it names.
pub mod Edges
pub mod Strings
pub mod Natives
pub mod Tables
pub mod Checks
pub mod Demand3
pub mod Lookups
pub mod Expansions
pub mod Listings
