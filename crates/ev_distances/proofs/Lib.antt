pub mod Places
pub mod Spans
pub mod Windows
pub mod Regions
pub mod ByForm
