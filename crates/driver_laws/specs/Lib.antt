pub mod Given
pub mod Feeds
pub mod Counted
