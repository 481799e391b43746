pub mod Slots
pub mod Spans
pub mod FirstWords
pub mod Bytes
