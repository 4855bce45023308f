pub mod ClearArgs
pub mod ReadsBack
