pub mod AlikeLaws
pub mod BestLaws
