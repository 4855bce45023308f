pub mod InChunks
pub mod EventNotes
pub mod KeptState
pub mod Growing
