pub mod Each_laws
pub mod Index_laws
pub mod Start_laws
