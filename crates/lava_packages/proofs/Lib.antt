pub mod In_range
pub mod Firsts
pub mod Refused_laws
