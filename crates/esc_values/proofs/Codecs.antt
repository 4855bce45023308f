-- Fields and base64, which read back.
pub mod TextBytesAreBytes
pub mod EnginesDecodeAlike
pub mod Base64ReadsBack
pub mod FieldsReadBack
