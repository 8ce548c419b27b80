pub mod Bindings
pub mod Branches
pub mod Classes
pub mod Declarations
pub mod ForHeads
pub mod Functions
pub mod Jumps
pub mod Labels
pub mod Loops
pub mod Methods
pub mod Statements
pub mod Switches
pub mod Tries
pub use Rattle.js_expr.specs as js_expr
