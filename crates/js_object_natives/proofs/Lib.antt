pub mod Carried
pub mod Keys_as_values
