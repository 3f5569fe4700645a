pub mod EncodeLaws
pub mod ReadLaws
