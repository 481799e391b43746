pub mod Opening
pub mod ConcreteRun
pub mod Depth
pub mod LiveWords
pub mod Shown
pub mod RunText
pub mod Claims
