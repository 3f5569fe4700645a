-- The rules (docs/RULES.md) as definitions, in their order: what a reader must believe.
pub mod Sizes
pub mod Bytes
pub mod Points
pub mod Class
pub mod Lines
pub mod Prefix
pub mod Passes
pub mod Table
pub mod Search
pub mod Scan
pub mod Beside
pub mod Count
pub mod Book
pub mod Refusal
pub mod Jobs
pub mod Told
