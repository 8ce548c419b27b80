pub mod Views
pub mod Literals
pub mod Loops
pub mod Tries
pub mod Functions
pub mod Objects
pub mod Classes
pub mod Patterns
