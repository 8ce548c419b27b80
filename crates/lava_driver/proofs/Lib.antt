pub mod Growing
pub mod Underway
pub mod Tracing
pub mod Traced_whole
