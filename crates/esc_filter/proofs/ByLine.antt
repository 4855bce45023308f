-- Streams whose lines are streams of their own, and lines that stay as they are.
pub mod LinesAreStreams
pub mod BytesOfLines
pub mod FirstAndLastFeed
pub mod DataHasNoFeed
pub mod TextsHaveNoFeed
pub mod LineHasOneFeed
pub mod LinesReadBack
pub mod PlainLinesAreKept
pub mod PlainBytesAreKept
pub mod WideBytesAreKept
pub mod PlainLinesReadBack
