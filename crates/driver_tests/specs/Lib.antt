pub mod Playing
pub mod Trials
