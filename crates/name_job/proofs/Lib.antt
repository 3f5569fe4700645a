pub mod JobLaws
pub mod FaceLaws
