-- What the crates above read of graphs, walks and searches.
pub mod Graphs
pub mod Search
pub mod Counts
