pub mod Sender
pub mod Sights
pub mod Stands
pub mod States
pub mod Hearing
pub mod Closing
