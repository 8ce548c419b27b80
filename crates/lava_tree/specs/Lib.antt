pub mod TreeAnswers
