-- Laws that belong to no one function: the order of work makes no difference.
pub mod Turns
pub mod Idle
pub mod Scans
