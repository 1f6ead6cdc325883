pub mod LaterArgs
pub mod OwnArgs
pub mod Lines
pub mod TypeTexts
