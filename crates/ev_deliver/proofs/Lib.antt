pub mod FredDelivers
pub mod IdtDelivers
pub mod GoesOn
pub mod Tops
