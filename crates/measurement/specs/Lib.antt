-- What the contracts of `measurement` cite.
pub mod Matrices
pub mod Measures
pub mod Codes
pub mod Answers
