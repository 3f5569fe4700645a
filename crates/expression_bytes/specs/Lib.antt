-- What the leaves on bytes say.
pub mod Front
