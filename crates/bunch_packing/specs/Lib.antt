pub mod Both
pub mod Opens
pub mod Trials
