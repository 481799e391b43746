pub mod Statements
pub mod LabelLaws
pub mod Sections
pub mod FirstLabels
