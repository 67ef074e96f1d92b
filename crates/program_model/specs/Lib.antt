pub mod Words
pub mod Refused
pub mod Checked
pub mod Shown
