pub mod Answers
mod CallAnswers
