pub mod Counts
pub mod Sessions
pub mod Items
pub mod Whole
pub mod LangItems
