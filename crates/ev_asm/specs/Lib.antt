pub mod Assembly
pub mod Assembled
pub mod LabelTable
pub mod Linked
