pub mod Registering
pub mod Selection
pub mod Reading
pub mod LetTypes
pub mod Words
pub mod Own
