pub mod Fixed_laws
pub mod Making_laws
pub mod Counts
pub mod Locked_laws
pub mod Permitted_laws
mod Entries_laws
mod Again_laws
mod Marks_stay
mod Repair_laws
mod Others_laws
mod Initial_laws
mod Accessor_laws
