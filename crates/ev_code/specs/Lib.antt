pub mod Coding
pub mod Reader
