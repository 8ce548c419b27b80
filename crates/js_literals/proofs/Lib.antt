pub mod Answers_laws
pub mod Characters_laws
pub mod Escapes_laws
pub mod NumericValues_laws
pub mod Plain_laws
pub mod StringValues_laws
