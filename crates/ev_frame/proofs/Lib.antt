pub mod Numbers
pub mod Fields
pub mod ConfigLaws
pub mod FrameWords
pub mod FrameLaws
