-- Laws of the list of common prefixes and of the choice among them, and the loops that carry them out.
pub mod PlainLaws
