pub mod Impls
pub mod Questions
