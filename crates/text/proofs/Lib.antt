-- Laws of `text`.
pub mod Puts
pub mod Decimals
pub mod Written
pub mod Fronts
