pub mod Law
pub mod Record
pub mod Rules
