-- What the contracts of `digits` cite.
pub mod Digits
pub mod Filter
