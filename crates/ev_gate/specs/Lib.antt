pub mod Gate
pub mod Tss
