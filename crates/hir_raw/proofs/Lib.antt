pub mod Aliases
pub mod Ways
