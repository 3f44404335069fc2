-- Laws of a table's bytes and values, and of the rule of each index.
pub mod Bytes
pub mod Entries
pub mod Rules
pub mod Applied
pub mod Plans
pub mod Answers
