-- Laws of `display`.
pub mod Texts
