pub mod Places_found
pub mod Places_walked
