pub mod ToldLaws
pub mod ClassLaws
