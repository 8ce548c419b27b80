pub mod Deeper
pub mod Var_laws
pub mod Sources_laws
