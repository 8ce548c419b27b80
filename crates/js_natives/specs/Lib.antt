pub mod Seen
pub mod Families
pub mod Decided
pub mod Deeds
pub mod Items
