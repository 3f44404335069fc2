-- Laws that belong to no one function: the tests of the check give the rule of one index, then, from both ends of the rotations, of all.
pub mod Heights
pub mod Least
pub mod Flags
pub mod Index
pub mod Stops
pub mod Ends
pub mod Same
pub mod Answers
