pub mod FlagBits
pub mod Values
pub mod Words
mod Effects
mod Plain
mod System
pub mod Sound
pub mod Blocks
pub mod Listed
pub mod Single
pub mod Parts
pub mod Placed
