pub mod Worlds
pub mod Crossings
pub mod Ends
pub mod First
pub mod Asked_outside
pub use Rattle.js_crossing.specs.js_run
pub use Rattle.js_crossing.specs.js_machine
pub use Rattle.js_crossing.specs as js_crossing
