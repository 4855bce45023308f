pub mod Places
pub mod TableLaws
