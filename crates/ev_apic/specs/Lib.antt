pub mod Vectors
pub mod Apic
pub mod Send
pub mod Inbox
