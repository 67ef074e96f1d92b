pub mod Answers
pub mod Kept
pub mod Stands
pub mod Taking
pub mod RecordChanges
