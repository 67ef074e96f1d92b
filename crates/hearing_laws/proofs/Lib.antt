pub mod Leading
pub mod Nearness
pub mod Acting
pub mod Unseen
pub mod Going
pub mod Telling
pub mod Calm
