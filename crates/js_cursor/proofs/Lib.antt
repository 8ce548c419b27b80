pub mod End_laws
pub mod Passing
pub mod Refusals
pub mod Run_laws
