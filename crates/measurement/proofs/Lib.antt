-- Laws of matrices modulo 2, and of the strings that natives measure.
pub mod Matrices
pub mod Algebra
pub mod Strings
pub mod Together
pub mod Letters
pub mod Digits
