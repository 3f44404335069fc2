-- Laws of `listing`.
pub mod Texts
pub mod Answers
pub mod ShiftCount
pub mod Lengths
pub mod ReadBack
