pub mod Sizes
pub mod WindowSets
pub mod WindowFacts
pub mod Walking
