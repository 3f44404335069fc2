-- Laws that belong to no one function.
pub mod Digits
pub mod Range
pub mod Places
pub mod Commutation
pub mod Pivot
pub mod Rotation
pub mod Lists
pub mod Text
