pub mod Revoked
