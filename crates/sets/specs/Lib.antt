pub mod Bytes
pub mod Ends
pub mod Laws
pub mod Members
pub mod Runs
pub mod Texts
