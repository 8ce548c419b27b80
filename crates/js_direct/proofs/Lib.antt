pub mod Append
pub mod Charges
pub mod Doing
pub mod Given
pub mod Increment
pub mod Put
