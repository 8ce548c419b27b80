pub mod Cost_laws
pub mod Joined_laws
pub mod Placed_laws
pub mod Places_found
