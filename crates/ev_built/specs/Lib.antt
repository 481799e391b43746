pub mod Built
pub mod RunTakes
pub mod Laws
