pub mod EditionLaws
