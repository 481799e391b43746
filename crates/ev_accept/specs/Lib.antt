pub mod Bound
pub mod Kinds
pub mod Rooms
pub mod Acceptance
pub mod Checks
pub mod Calls
pub mod Missing
