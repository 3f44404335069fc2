-- Laws of `reader`.
pub mod Lines
pub mod Heads
pub mod Good
pub mod First
pub mod Sound
pub mod Measured
pub mod Rotations
pub mod Bound
pub mod Again
