pub mod WindowRuns
pub mod Turns
pub mod Differences
