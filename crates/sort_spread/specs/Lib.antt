pub mod Sort
pub mod Spread
