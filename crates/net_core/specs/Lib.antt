pub mod Counts
pub mod Failing
pub mod Folder
pub mod InMemory
pub mod Taken
