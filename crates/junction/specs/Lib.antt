pub mod Conflicts
pub mod Verdicts
