pub mod MergeLaws
pub mod SortLaws
pub mod OrderLaws
pub mod CountLaws
pub mod SpreadLaws
pub mod PassLaws
