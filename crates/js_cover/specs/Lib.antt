pub mod Refined
pub mod Targets
