pub mod ShareLaws
pub mod ListLaws
