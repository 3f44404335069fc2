-- What the contracts of `native_measurement` cite.
pub mod Natives
pub mod Answers
