pub mod Settled
pub mod Ends
pub mod Shown
pub mod Rest
pub mod Opened
pub mod Parts
pub mod Safe
