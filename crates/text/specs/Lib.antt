-- What the contracts of `text` cite, and what those above say of texts that are read or written.
pub mod Puts
pub mod Decimals
pub mod Reads
pub mod Fronts
