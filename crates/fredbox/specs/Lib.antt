pub mod Comes
pub mod Answer
pub mod Broken
pub mod Faults
pub mod Taken
pub mod Safe
