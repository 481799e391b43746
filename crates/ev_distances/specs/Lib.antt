pub mod Span
pub mod Regions
pub mod Form
pub mod Claims
