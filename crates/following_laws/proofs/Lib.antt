mod Players
mod Arguments
mod Allowed
mod FollowingEdits
pub mod ReadFollowing
mod Examples
