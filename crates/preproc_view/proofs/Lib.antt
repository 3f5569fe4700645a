pub mod RowLaws
pub mod WholeLaws
