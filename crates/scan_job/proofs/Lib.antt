pub mod ModeLaws
pub mod FaceLaws
pub mod PlaceFaceLaws
