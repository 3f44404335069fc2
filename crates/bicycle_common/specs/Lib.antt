-- What the contracts of `bicycle_common` cite.
pub mod Refusals
pub mod Bytes
pub mod Ranges
pub mod Letters
pub mod Automorphisms
pub mod Instructions
