pub mod Alternatives
pub mod ArmWalk
pub mod Arms
pub mod BranchWalk
pub mod Branches
pub mod InAlternatives
pub mod PatternWalk
pub mod Words
