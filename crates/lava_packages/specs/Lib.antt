pub mod Commons
pub mod Laws
pub mod Modules
pub mod Packages
pub mod Uncaught
pub use Rattle.lava_start.specs as lava_start
pub use Rattle.ses_lockdown.specs as ses_lockdown
pub use Rattle.ses_prelude.specs as ses_prelude
pub use Rattle.pkg_source.specs as pkg_source
