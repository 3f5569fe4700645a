pub mod GroupLaws
pub mod TallyLaws
pub mod StableLaws
