pub mod Classes
pub mod Noting
pub mod Buried
pub mod Entries
pub mod Steps
pub mod Visible
mod Looked
mod Walked
mod Made
