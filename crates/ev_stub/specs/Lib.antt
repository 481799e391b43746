pub mod Registers
pub mod Lines
pub mod Blocks
pub mod Position
