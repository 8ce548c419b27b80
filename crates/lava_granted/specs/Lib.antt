pub mod FreeNames
pub mod LiteralRequests
pub mod ReadPackages
