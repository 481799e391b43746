pub mod KernelImage
pub mod Bodies
pub mod WellFormed
