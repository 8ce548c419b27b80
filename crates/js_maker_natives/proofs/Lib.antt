pub mod Carried
pub mod New_objects
