pub mod LevelLaws
pub mod OperandLaws
