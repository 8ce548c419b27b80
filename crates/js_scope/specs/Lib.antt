pub mod FreePaths
pub mod Laws
pub mod Resolutions
pub mod Scopings
pub mod StaticPaths
