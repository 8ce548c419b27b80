pub mod Made_laws
pub mod Sets_of_keys
