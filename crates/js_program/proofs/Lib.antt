pub mod Programs_laws
