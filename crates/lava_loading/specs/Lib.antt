pub mod Loads
pub mod Policies
pub mod Laws
pub use Rattle.pkg_load.specs as pkg_load
