-- The text of an image, and the image that it means.
pub mod ItemsAreWritten
pub mod HeaderIsWritten
pub mod TextIsGathered
pub mod ReadIsWritable
pub mod WritesBack
