pub mod Surroundings
pub mod Inner
pub mod Valid
pub mod Work
