pub mod Config
pub mod Frame
