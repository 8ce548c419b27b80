pub mod Making
pub mod Grants
pub mod Templates
pub mod Applications
pub mod Laws
pub mod Firsts
pub use Rattle.js_world.specs.js_run
pub use Rattle.js_world.specs.js_machine
pub use Rattle.js_world.specs as js_world
