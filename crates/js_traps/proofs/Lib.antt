pub mod Enforced
pub mod Fixed_keys
