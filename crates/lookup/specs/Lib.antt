-- What the contracts of `lookup` cite: the walk down a table, what is answered, and what an answer means.
pub mod Walks
pub mod Held
pub mod Answers
pub mod Truth
