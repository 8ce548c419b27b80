pub mod Frames_laws
pub mod Reversed
