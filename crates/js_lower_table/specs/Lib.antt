pub mod Values
pub mod Entries
pub mod Expressions
pub mod Patterns
pub mod Statements
pub mod Templates
pub mod Table
pub mod Nests
