pub mod Passes
pub mod Posts
