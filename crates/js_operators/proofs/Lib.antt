pub mod Converts
pub mod Operator_deeds
pub mod Powers
pub mod Primitive_deeds
pub mod Primitive_operators
pub mod Safe_numbers
