mod Grant_laws
mod Lists
pub mod Prefix_laws
