-- What the recorded questions and answers are made of.
pub mod Words
pub mod Hex
pub mod Numbers
pub mod Fields
