pub mod Tells
pub use Rattle.lava_loading.specs as lava_loading
