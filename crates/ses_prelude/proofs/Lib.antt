pub mod Paths_laws
pub mod Functions_laws
pub mod Bodies_laws
pub mod Prelude_laws
mod Marks_laws
mod Property_laws
mod Validity_laws
