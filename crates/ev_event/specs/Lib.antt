pub mod Event
pub mod DoubleFault
pub mod Boundary
