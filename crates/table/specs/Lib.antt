-- What the contracts of `table` cite. `Bytes` alone speaks of bytes; everything above it speaks of `entry`.
pub mod Bytes
pub mod Entries
pub mod Rules
pub mod Plans
pub mod Answers
