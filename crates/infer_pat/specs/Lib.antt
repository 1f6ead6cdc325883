pub mod Paths
pub mod Patterns
pub mod Literals
pub mod Words
pub mod Own
