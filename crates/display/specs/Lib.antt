-- What the contracts of `display` cite.
pub mod Texts
