pub mod Written
pub mod Parts
pub mod Entries
pub mod Asking
pub mod Words
pub mod Own
