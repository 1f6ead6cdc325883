pub mod Complete
pub mod Consequences
pub mod Pieces
pub mod Three
pub mod Endings
pub mod Asked
pub mod MadeReports
pub mod Promised
