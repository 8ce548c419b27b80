pub mod Slotted
pub mod Ordered
pub mod Jumped
pub mod Turned
pub mod Tried
