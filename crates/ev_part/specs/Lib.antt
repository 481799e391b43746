pub mod ItemWords
pub mod ItemForms
pub mod PartItems
pub mod PartStands
pub mod BodyParts
