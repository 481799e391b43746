pub mod Word
pub mod Instruction
pub mod Spelling
pub mod Reading
pub mod Flags
pub mod Pages
