pub mod Calls
pub mod Laws
pub mod Naming
pub mod Sides
pub mod Starts
pub mod Views
