pub mod Lent
pub mod Admits
