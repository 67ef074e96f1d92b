pub mod Handed
pub mod Ticked
pub mod Delivered
pub mod Copied
pub mod NewOnes
