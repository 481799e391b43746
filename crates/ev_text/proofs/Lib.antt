pub mod Ranges
pub mod Choosing
pub mod Surplus
pub mod TextLaws
pub mod Gives
pub mod WordLaws
pub mod Encoded
