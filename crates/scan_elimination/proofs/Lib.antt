pub mod EndLaws
pub mod PassLaws
