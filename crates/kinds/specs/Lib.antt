pub mod Bundles
pub mod Engine
pub mod Sides
