-- What the writers of an expression say.
pub mod Output
