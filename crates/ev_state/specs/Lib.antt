pub mod Msr
pub mod Descriptors
pub mod Processor
pub mod Outcome
