pub mod Scripts
pub mod OtherProcessors
