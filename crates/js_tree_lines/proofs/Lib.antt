pub mod Pending_laws
pub mod Lines_laws
