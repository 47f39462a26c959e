pub mod Frames
pub mod FrameLaws
