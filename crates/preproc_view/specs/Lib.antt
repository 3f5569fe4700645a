-- What the matchers answer, over the definitions of `rules`.
pub mod Rows
pub mod Whole
