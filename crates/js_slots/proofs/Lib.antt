pub mod Cleared_laws
pub mod Finite_maps
pub mod Kept_laws
pub mod Places_laws
