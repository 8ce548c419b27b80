pub mod Lasts
pub mod Scopes_laws
