pub mod Parted
pub mod Classed
pub mod Part_keys
