-- Laws of shortest walks, of the search for them, and of its counts.
pub mod Shortest
pub mod Search
pub mod Counts
