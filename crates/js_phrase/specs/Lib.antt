pub mod BindingPatterns
pub mod Covers
pub mod Lasts
pub mod Lists
pub mod Literals
pub mod Phrases
pub mod Places
pub mod Queues
