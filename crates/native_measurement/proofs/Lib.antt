-- Laws of the numbers of native measurements.
pub mod Natives
