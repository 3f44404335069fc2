-- Laws of digits and of the filter that belong to no one function.
pub mod Digits
pub mod Filling
