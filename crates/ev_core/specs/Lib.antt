pub mod Local
pub mod Step
pub mod State
pub mod Run
pub mod Mail
pub mod Task
pub mod Turns
