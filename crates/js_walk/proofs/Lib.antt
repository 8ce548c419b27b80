pub mod Parts_laws
