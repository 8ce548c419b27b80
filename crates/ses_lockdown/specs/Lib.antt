pub mod Lockdown
pub mod Permits
pub mod Intrinsics
pub mod Entries
pub mod Laws
pub mod Repairs
pub mod Accessors
pub mod Apart
