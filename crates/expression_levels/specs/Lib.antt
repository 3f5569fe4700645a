-- What the functions that read a level say.
pub mod Levels
