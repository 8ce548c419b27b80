pub mod Shows
pub mod Leads
pub mod Newest
pub use Rattle.js_machine.specs.js_conversions
pub use Rattle.js_machine.specs.js_run
pub use Rattle.js_machine.specs as js_machine
