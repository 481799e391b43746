pub mod NameLaws
pub mod FormLaws
pub mod Examples
