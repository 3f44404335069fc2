-- Laws of the walk, of the bytes that are written, and of the answers.
pub mod Walks
pub mod Steps
pub mod Bytes
pub mod Same
pub mod Answers
pub mod Cases
pub mod Written
pub mod Truth
pub mod Ruled
