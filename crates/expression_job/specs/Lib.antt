-- What is said of a whole text.
pub mod Whole
