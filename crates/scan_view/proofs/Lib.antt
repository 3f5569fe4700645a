pub mod WalkLaws
pub mod SeeLaws
