pub mod Stubs
pub mod Listed
pub mod Positions
