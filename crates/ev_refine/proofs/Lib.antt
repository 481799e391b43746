pub mod Runs
pub mod Opens
pub mod Refine
