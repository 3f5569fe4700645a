pub mod NumberLaws
pub mod FrontLaws
pub mod StepLaws
