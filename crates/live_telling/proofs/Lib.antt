pub mod Adding
pub mod TicksTold
