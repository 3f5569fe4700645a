pub mod ReachLaws
pub mod WinnerLaws
pub mod StandLaws
