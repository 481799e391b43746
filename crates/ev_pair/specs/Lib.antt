pub mod Outcome
pub mod SideText
pub mod Modes
pub mod Agreement
pub mod Safety
pub mod Chains
pub mod Within
