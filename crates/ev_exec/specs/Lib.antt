pub mod Exec
pub mod After
pub mod Access
