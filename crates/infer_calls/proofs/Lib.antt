pub mod Args
pub mod CallWalk
pub mod Callees
pub mod Calls
pub mod Loose
pub mod Uncallable
pub mod ExpectedInputs
pub mod Words
