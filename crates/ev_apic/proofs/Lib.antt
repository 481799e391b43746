pub mod Bits
pub mod Greatest
pub mod Highest
pub mod Laws
