pub mod Stacks
pub mod Stack_laws
