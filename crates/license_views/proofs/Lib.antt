pub mod ViewLaws
pub mod ProcessLaws
