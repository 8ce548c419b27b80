pub mod Laws
pub mod Merging
pub mod Names
pub mod Reading
pub mod Rows
pub mod Texts
pub mod Writing
