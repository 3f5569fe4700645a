pub mod ToldLaws
pub mod ScoreLaws
