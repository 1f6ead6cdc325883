pub mod Opening
pub mod Unifying
pub mod Following
pub mod Exactly
pub mod Words
pub mod Own
