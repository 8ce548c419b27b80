pub mod Hosts
pub mod Keys
pub mod Laws
pub mod Starts
