pub mod Opening
pub mod Labelled
pub mod PartLaws
pub mod Walks
