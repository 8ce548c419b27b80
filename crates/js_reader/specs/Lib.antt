pub mod Terminals
pub mod Halts
pub mod Steps
pub mod Reading
pub mod Sources
pub mod Runs
