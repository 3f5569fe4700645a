-- What the functions that read a part say.
pub mod Simple
pub mod Parts
