-- The text that is written of parts, and the tokens that are read from it.
pub mod RunsAreEscaped
pub mod EscapedBytesAreUtf8
pub mod AttributesAreWhole
pub mod NoNoncharacters
pub mod PartsReadAsTokens
pub mod TokensAreListed
