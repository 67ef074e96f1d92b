pub mod Known
pub mod Alike
pub mod Due
pub mod Moves
pub mod Sendings
