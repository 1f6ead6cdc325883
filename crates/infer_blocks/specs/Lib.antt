pub mod Blocks
pub mod BodyTypes
