pub mod LeadLaws
pub mod EndLaws
pub mod KindLaws
pub mod LeafLaws
pub mod PasteLaws
