pub mod FrontLaws
pub mod KindLaws
pub mod StateLaws
