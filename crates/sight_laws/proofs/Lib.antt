pub mod Unsighted
pub mod Shown
pub mod Relevance
pub mod Closing
pub mod Scoring
pub mod Sending
pub mod Calling
pub mod Datagrams
pub mod Given
pub mod Feeds
mod Examples
