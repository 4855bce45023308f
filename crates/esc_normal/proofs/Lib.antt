pub mod OwnTexts
pub mod LoneNumbers
pub mod HaveTexts
pub mod Spelling
pub mod Results
pub mod Texts
pub mod Normalising
