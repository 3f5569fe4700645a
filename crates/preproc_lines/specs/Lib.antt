-- What the line passes answer, over the definitions of `rules`.
pub mod Placed
pub mod Normalised
