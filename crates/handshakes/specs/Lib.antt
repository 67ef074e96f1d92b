pub mod Hellos
