pub mod Members
pub mod Agreement
