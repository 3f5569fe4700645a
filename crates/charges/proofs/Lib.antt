-- The recorded output, computed from the definitions.
pub mod Expected
