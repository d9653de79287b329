-- what the code does: its outcomes, its passes over the tables, its climb up a chain, its searches
pub mod Climbs
pub mod Marks
pub mod Once
pub mod Outcomes
pub mod RowPasses
pub mod Scans
pub mod ChangedUses
pub mod Whole
