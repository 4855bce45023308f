-- Pages with their lines in elements.
pub mod LinedPartByPart
pub mod LinesReadAsTokens
pub mod LinedTagsClose
pub mod StateOfLines
