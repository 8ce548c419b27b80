pub mod Given_laws
pub mod Kept
pub mod Traced_laws
pub mod Turned_laws
pub mod Crossed
pub mod Ended
pub mod First_laws
pub mod Outside_laws
pub use Rattle.js_machine_run.proofs.of_js_run_laws
pub use Rattle.js_crossing.proofs as of_js_crossing
