pub mod Seen_laws
pub mod Step_laws
pub mod Native_laws
pub mod Resumed_laws
pub mod Item_lists
pub mod Sorted_once
pub mod Item_laws
pub use Rattle.js_run_laws.proofs as of_js_run_laws
