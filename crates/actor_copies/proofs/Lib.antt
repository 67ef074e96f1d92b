pub mod Keyed
pub mod CopyLists
pub mod Knowing
pub mod Following
mod Cleaning
mod CopySteps
mod Indexes
mod Initial
mod Listed
mod Mirroring
mod Opening
mod Steps
mod ValueSteps
