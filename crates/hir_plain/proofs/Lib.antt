pub mod PlainAdts
pub mod Spreading
pub mod UsersOf
pub mod PlainGraph
pub mod FnMarks
pub mod Words
