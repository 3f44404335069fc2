-- What the contracts of `listing` cite.
pub mod Listings
pub mod Answers
pub mod Stated
