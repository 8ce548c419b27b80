pub mod Innermost
pub mod Lookups
