pub mod Around
pub mod Numbers
pub mod Parents
pub mod Words
