pub mod LaterArgs
pub mod Words
pub mod Own
