pub mod Ran
pub mod Talks
pub mod Traces
pub use Rattle.js_world.specs.js_run
pub use Rattle.js_world.specs.js_machine
pub use Rattle.js_world.specs.js_crossing
pub use Rattle.js_world.specs as js_world
