pub mod Written
pub mod Between
pub mod Lent
pub mod HeadOf
