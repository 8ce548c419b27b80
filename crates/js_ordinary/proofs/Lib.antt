pub mod Chains_laws
pub mod Changes_laws
pub mod Ends_laws
pub mod Invariants_laws
pub mod Moves
pub mod Renamed
pub mod Upward_laws
