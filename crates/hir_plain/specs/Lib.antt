pub mod Spread
pub mod PlainGraph
pub mod Words
pub mod Own
