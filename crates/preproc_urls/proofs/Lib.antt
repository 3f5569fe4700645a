pub mod UrlLaws
