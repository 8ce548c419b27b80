pub mod Programs
pub use Rattle.js_parser.specs as js_parser
