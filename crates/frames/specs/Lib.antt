pub mod FrameSets
pub mod Listed
pub mod Sizes
pub mod FrameFacts
pub mod Gathered
