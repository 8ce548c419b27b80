pub mod Atoms
pub mod Lines
pub mod Pending_lines
