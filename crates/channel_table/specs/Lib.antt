pub mod Holders
pub mod Channels
pub mod Calls
pub mod Keeps
pub mod Stands
