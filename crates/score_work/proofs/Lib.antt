pub mod ScoreWorkLaws
