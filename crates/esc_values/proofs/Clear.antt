-- Clear texts and parts.
pub mod CutAtCharacter
pub mod SplitAndJoined
pub mod ClearTexts
pub mod ClearPairs
pub mod PlainIsClear
pub mod PlainPartsAreClear
pub mod NumbersAreClear
