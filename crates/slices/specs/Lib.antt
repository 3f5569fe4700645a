-- What the reading leaves answer, over the definitions of `rules`.
pub mod Classes
pub mod Ends
pub mod Leads
