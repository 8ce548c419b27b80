pub mod Calling
pub mod Reported
pub mod Repaired
pub mod Counted
pub mod Ended_laws
pub mod Told
mod Isolation
