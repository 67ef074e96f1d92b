pub mod Answered
pub mod Stepwise
