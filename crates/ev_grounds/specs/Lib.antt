pub mod Grounds
pub mod Facts
