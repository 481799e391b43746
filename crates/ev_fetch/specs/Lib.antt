pub mod Spelled
pub mod Claims
