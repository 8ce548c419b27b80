pub mod Paths
pub mod Functions
pub mod Preludes
pub mod Helpers
pub mod Laws
pub use Rattle.js_lower.specs as js_lower
