pub mod FrontLaws
pub mod FormLaws
pub mod DepthLaws
pub mod PlaceLaws
pub mod LineLaws
pub mod ListLaws
pub mod CaseLaws
