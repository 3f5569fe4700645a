pub mod TextLaws
pub mod WalkLaws
pub mod SoundLaws
pub mod CompleteLaws
pub mod AnnexLaws
