pub mod ByteLaws
pub mod EntryLaws
mod RiseLaws
