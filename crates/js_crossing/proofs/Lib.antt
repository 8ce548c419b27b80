pub mod Shown_laws
pub mod Reversed
pub mod Newest_laws
