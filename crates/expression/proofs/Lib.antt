pub mod Cases
pub mod WordLaws
pub mod EveryLaws
pub mod PartLaws
