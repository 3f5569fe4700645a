pub mod FlatLaws
pub mod DerivedLaws
pub mod EndLaws
pub mod ShortLaws
pub mod SpacedLaws
pub mod NeatLaws
pub mod SpellingLaws
pub mod Cases
