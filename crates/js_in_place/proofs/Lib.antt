pub mod Calling
pub mod Entering
pub mod Gone
pub mod Led
pub mod Newest
pub mod Parts
pub mod Placed
pub mod Returning
pub mod Turning
pub use Rattle.js_direct.proofs as of_js_direct
pub use Rattle.js_machine_calls.proofs as of_js_machine_calls
