pub mod AsText
pub mod Cutting
pub mod Digits
pub mod LineCutting
pub mod ReadingBack
pub mod Rejoining
