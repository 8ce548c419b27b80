pub mod Given_laws
