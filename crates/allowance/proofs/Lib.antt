-- The laws of a scan that is charged to an allowance, computed cases, and that every scan makes a scoring.
pub mod AllowedLaws
pub mod Cases
pub mod ScoringLaws
