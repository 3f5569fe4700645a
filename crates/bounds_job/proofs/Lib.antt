pub mod BoundsLaws
pub mod FaceLaws
