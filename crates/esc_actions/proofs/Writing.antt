-- The text of a writable list.
pub mod StringValues
pub mod WritableReadsBack
pub mod WritableIsJoined
pub mod NormalIsWritable
