mod Stepping
mod Going
mod Counting
mod Hearing
mod Keeping
