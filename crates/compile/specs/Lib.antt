-- What is left of an output once a table body was written to it, or did not fit.
pub mod Bodied
