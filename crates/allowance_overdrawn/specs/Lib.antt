pub mod Overdrawn
