pub mod Transfer
pub mod Lines
pub mod Number
pub mod Tokens
pub mod InputLines
pub mod Follow
