pub mod BigFiles
pub mod Summaries
