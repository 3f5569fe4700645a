pub mod FloorLaws
pub mod ScoreCases
