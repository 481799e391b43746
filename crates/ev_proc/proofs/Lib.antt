pub mod Raised
pub mod Tries
pub mod Executions
pub mod Returned
pub mod Specials
