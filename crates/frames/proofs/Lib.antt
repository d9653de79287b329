pub mod FirstRuns
pub mod Gathered
pub mod Made
pub mod Masks
