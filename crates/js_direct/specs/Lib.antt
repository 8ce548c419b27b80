pub mod Appends
pub mod Direct
pub mod Done
pub mod Increments
pub mod Puts
