pub mod Algebra
pub mod Joins
pub mod Refusals
