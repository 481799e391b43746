pub mod Pages
pub mod Deliveries
