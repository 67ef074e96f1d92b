pub mod LineOf
pub mod ReportOf
pub mod ToldRight
