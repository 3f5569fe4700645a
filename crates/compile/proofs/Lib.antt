pub mod BodyLaws
pub mod DoneLaws
pub mod FitLaws
pub mod SoundCompiled
