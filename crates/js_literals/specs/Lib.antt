pub mod Answers
pub mod Escapes
pub mod NumericValues
pub mod Plain
pub mod StringValues
