pub mod IdtDelivery
pub mod Tables
pub mod Pushed
