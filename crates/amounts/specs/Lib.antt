pub mod Judging
pub mod Laws
pub mod Reading
pub mod Showing
