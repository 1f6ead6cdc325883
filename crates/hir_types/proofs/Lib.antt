pub mod Layers
pub mod ExactEquality
pub mod Equal
