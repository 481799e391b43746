pub mod Words
pub mod Numbers
pub mod Tasks
pub mod Sees
pub mod Causes
pub mod Claims
pub mod Deliveries
