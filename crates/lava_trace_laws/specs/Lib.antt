pub mod First
pub mod Laws
pub mod Sound
pub mod Spelled
pub mod Written
