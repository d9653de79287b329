pub mod Accounts
pub mod Reports
