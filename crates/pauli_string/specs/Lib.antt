-- What the contracts of `pauli_string` cite.
pub mod Strings
pub mod Text
pub mod Answers
