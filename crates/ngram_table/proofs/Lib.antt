pub mod BigramLaws
pub mod LeftLaws
