pub mod CheckLaws
pub mod KindLaws
