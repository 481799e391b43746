pub mod AddressMap
pub mod Marks
pub mod Statements
pub mod IdtCode
pub mod FredCode
pub mod Expansion
