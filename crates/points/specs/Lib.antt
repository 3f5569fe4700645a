-- What writing UTF-8 leaves, over the definitions of `rules`.
pub mod Spread
