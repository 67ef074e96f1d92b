mod Noting
mod Ascending
mod Examples
