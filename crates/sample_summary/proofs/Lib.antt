mod Counting
mod Replayed
