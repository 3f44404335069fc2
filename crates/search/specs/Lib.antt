-- What the contracts of `search` cite: how the work is ordered.
pub mod Turns
pub mod Scans
