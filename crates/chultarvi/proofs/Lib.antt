pub mod AnswerLaws
pub mod AnyLaws
pub mod OldBookLaws
pub mod AsciiLaws
pub mod BesideLaws
