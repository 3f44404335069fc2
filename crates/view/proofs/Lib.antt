-- The two laws of the reads, for every callee with the contract: what is the same in each walk, what is passed and answered, and the laws.
-- No function cites them, since Rattle proves each by itself.
pub mod Stated
pub mod Held
pub mod Asked
