pub mod Numbers
pub mod GateBytes
pub mod GateLaws
pub mod TssLaws
