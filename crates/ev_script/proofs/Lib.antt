pub mod LineLaws
pub mod ScriptLaws
pub mod TextLaws
pub mod Examples
