-- What a written text is read as, and which texts need no more blanks.
pub mod Flat
