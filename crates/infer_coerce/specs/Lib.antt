pub mod Common
pub mod Coercions
pub mod MadeEqual
pub mod Recursion
pub mod Words
pub mod Own
