pub mod KeptTypes
pub mod SelectedBody
pub mod Staying
pub mod Ends
pub mod Words
pub mod Own
