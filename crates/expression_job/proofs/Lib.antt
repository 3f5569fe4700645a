pub mod WholeLaws
pub mod SpacedLaws
pub mod FaceLaws
