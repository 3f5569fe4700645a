pub mod BoundLaws
pub mod ReadyLaws
pub mod SearchLaws
pub mod RoundLaws
pub mod IndexLaws
