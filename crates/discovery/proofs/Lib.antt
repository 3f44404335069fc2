-- Laws that belong to no one function: the model keeps in range, reads the natives' strings alone, and what is built meets the rules.
pub mod Model
pub mod States
pub mod Short
pub mod Same
pub mod Meets
