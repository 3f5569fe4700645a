-- What the functions that read a line of a list say.
pub mod Rest
