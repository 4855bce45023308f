-- Runs of digits and of pixels.
pub mod ClassOfDigit
pub mod OneByteMoreOfRun
pub mod RunsOfDigits
pub mod RunsOfPixels
pub mod RunsAreNumbers
