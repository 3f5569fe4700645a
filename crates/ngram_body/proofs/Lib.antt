pub mod BodyLaws
pub mod SoundBody
