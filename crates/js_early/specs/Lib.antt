pub mod Contexts
pub mod Faults
pub mod Rules
pub mod Walks
