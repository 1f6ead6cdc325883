pub mod Enclosed
pub mod Numbered
pub mod Words
pub mod Own
