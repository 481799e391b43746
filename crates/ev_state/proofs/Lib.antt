pub mod FlagLaws
pub mod Kept
