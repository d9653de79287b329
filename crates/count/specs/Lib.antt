pub mod Counts
pub mod Top
pub mod Same
