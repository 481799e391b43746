pub mod Memory
pub mod Mapped
pub mod Spans
pub mod Conditions
pub mod Access
pub mod Code
