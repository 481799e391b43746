pub mod Parts
pub mod FieldReads
pub mod FormReads
pub mod RegisterReads
pub mod Again
pub mod Spelled
pub mod ReadingForms
