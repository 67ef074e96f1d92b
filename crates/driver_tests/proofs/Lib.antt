mod Joined
mod More
