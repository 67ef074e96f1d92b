pub mod Numbers
mod Lists
mod Records
mod Props
mod Cells
mod Asked
pub mod Telling
mod Changing
mod Edits
mod Seats
mod Refusing
mod RecordChanging
mod Setting
mod Spawning
mod Answering
mod Fitting
