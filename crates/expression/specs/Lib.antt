-- What an expression is, what it amounts to, and the answers of the public calls.
pub mod Reading
pub mod Writing
pub mod Annex
pub mod Jobs
pub mod Told
