pub mod Valid_laws
