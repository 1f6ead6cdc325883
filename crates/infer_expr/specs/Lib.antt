pub mod Params
pub mod Below
