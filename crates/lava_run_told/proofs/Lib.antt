pub mod Bound_laws
pub mod Line_laws
pub mod Name_laws
pub mod Read_laws
