pub mod Numbers_read
pub mod Primitive_values
