pub mod Made
pub mod Keeps
pub mod Slots
pub mod Indexes
