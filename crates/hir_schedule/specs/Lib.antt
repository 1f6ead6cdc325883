pub mod Graph
pub mod Visits
pub mod Nodes
pub mod Words
pub mod Own
