pub mod Measures
pub mod Sought
pub mod TypeUsers
pub mod Words
pub mod Own
