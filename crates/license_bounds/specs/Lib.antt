pub mod Ready
pub mod Found
