-- Strings that lie in the caller's bytes.
pub mod LentStrings
pub mod BytesAreLent
pub mod CutsAreLent
pub mod KeptStrings
