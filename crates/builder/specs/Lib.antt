-- What the contracts of `builder` cite.
pub mod Answers
