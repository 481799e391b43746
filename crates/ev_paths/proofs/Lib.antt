pub mod FredEnds
pub mod IdtEnds
pub mod NmiEnds
pub mod Locals
pub mod BodyEnds
pub mod CallEnds
pub mod Lines
pub mod Cells
