pub mod Mismatch
pub mod Seen
pub mod Diagnostics
