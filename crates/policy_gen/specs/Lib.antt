pub mod Denials
pub mod Generated
pub mod Imports
pub mod Kept
pub mod Laws
pub mod Needs
pub mod Passes
pub mod Uses
