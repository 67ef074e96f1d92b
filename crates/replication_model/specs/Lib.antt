pub mod Story
pub mod Transcript
pub mod Headline
pub mod Sampled
