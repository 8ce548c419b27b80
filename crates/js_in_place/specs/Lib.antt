pub mod Calls
pub mod Holding
pub mod InPlace
pub mod Places
pub mod Turns
pub use Rattle.js_direct.specs as js_direct
