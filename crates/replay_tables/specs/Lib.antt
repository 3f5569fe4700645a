-- What the program answers.
pub mod Told
