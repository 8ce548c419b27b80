pub mod Alike
pub mod Bodies
pub mod Counts
pub mod Lines
pub mod Pages
pub mod Quotes
pub mod Sheets
