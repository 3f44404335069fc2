-- What the contracts of `view` cite beside `table`'s definitions.
pub mod Answers
