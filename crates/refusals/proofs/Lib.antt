pub mod AreaLaws
pub mod LentLaws
pub mod AdmitLaws
pub mod PassedLaws
