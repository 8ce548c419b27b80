pub mod Connected_laws
pub mod Graph_laws
