pub mod Gates
pub mod Opened
pub mod Mapped
pub mod Stand
pub mod Stacks
