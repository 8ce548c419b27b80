pub mod Numbered
pub mod Constructed
pub mod Spread_out
pub mod Constructing
