-- The data of device control strings.
pub mod CountedToLimit
pub mod DataWithoutMode
pub mod ImagesLeaveSink
