-- What the contracts of `discovery` cite. `Model` is what a caller of `build` reads; the others say how a build is kept in range.
pub mod Model
pub mod States
pub mod Tried
pub mod Short
pub mod Builds
