pub mod Tables
pub mod Decoded
pub mod Settled
