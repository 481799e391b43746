pub mod ProbeLine
pub mod Told
pub mod Probe
pub mod Answer
pub mod BareMemory
pub mod Input
pub mod Laws
