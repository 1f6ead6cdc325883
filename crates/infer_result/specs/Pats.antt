pub mod Tuple
pub mod Constructor
