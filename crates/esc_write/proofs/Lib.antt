pub mod Results
pub mod ActionRuns
pub mod ShortTexts
pub mod ShortNumbers
pub mod Verbatim
