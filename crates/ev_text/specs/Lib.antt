pub mod Words
pub mod TextForms
pub mod Counted
pub mod UserText
pub mod TextStands
