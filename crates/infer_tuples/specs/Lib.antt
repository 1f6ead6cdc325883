pub mod Tuples
pub mod Words
pub mod Own
