pub mod PolicyOutcomes
pub mod PolicyAnswers
pub mod CheckAnswers
