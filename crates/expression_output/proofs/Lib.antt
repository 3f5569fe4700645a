pub mod OutputLaws
pub mod PartLaws
pub mod WrapLaws
