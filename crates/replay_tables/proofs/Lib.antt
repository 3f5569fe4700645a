pub mod ToldLaws
pub mod WalkLaws
pub mod MadeLaws
