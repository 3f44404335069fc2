-- What the contracts of `reader` cite.
pub mod Lines
pub mod Plans
pub mod Sound
pub mod Answers
