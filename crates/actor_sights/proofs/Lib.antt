pub mod Named
pub mod Among
pub mod Property
pub mod Looks
pub mod Fits
