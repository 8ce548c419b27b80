pub mod Computing
pub mod Operating
pub mod Deeds
pub use Rattle.js_run.specs.js_exotic
pub use Rattle.js_run.specs.js_operations
pub use Rattle.js_run.specs.js_traps
pub use Rattle.js_run.specs.js_proxy
pub use Rattle.js_run.specs.js_conversions
pub use Rattle.js_run.specs.js_slot_natives
pub use Rattle.js_run.specs.js_maker_natives
pub use Rattle.js_run.specs as js_run
