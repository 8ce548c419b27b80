pub mod Replied
pub mod Handed
pub mod Gone_on
pub mod Charged
pub mod Argued
pub mod Woken_laws
pub mod Coming
pub use Rattle.js_machine_natives.proofs.of_js_run_laws
