pub mod ProcessorStep
pub mod Conditions
