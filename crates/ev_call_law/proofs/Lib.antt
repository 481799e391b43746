pub mod Counts
pub mod Functions
pub mod Records
pub mod Steps
pub mod Items
pub mod Lines
pub mod Runs
pub mod Examples
