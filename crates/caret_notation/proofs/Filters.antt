-- Judges of actions, and filters of revealed text.
pub mod VerdictOfJudge
pub mod KeptIsWritten
pub mod FilterOfRevealed
pub mod BeginsAsOneFilter
