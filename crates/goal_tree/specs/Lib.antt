pub mod Right
pub mod Trees
pub mod Words
pub mod Own
