pub mod Causes
pub mod Command
pub mod Table
pub mod Request
pub mod Outcome
pub mod Exactly
pub mod Answer
pub mod Reports
