pub mod Ends
pub mod FredEnds
pub mod IdtEnds
pub mod NmiEnds
pub mod BodyEnds
pub mod CallEnds
pub mod Lines
pub mod Cells
