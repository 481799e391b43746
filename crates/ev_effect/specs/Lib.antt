pub mod Task
pub mod Effect
pub mod Frame
