pub mod Answers
pub mod Book
pub mod History
pub mod Keeps
