pub mod Elements
pub mod Tuples
pub mod Words
