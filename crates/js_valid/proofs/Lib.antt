pub mod Pending_laws
pub mod Steps_laws
