pub mod Refined_laws
