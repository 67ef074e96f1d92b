mod Answers
mod Fitting
mod TickSteps
mod Ticked
mod Waiting
mod Making
mod Meant
mod Roles
pub mod Starting
mod Unheard
mod Datagrams
