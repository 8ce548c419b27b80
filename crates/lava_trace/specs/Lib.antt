pub mod Asks
pub mod Courses
pub mod Items
pub mod Left
pub mod Many
pub mod Traces
