pub mod ScriptLine
pub mod LineText
pub mod Script
