-- the laws of a kind, and what they say of amounts that join
pub mod Laws
pub mod Joins
-- lists: what a test keeps, and serials, which climb
pub mod Kept
pub mod Serials
-- banks: the way from a bank up to bank 0, and which bank stands beneath which
pub mod Roads
pub mod Within
-- the rows of the tables, and the invariant: when the tables fit what the list of calls shows
pub mod Views
pub mod RowFacts
pub mod Sound
-- what one call does: the form of each proof below, a refusal, and grants that go
pub mod Fitted
pub mod RefusalFacts
pub mod Steps
pub mod Removals
pub mod Endings
-- the calls, one by one: that each keeps the invariant
pub mod Begins
pub mod Opens
pub mod Buys
pub mod Backs
pub mod Closes
pub mod Reclaims
pub mod HandUpWays
pub mod HandUpRows
pub mod HandUps
pub mod Stocks
-- a call, a list of calls, the books
pub mod Calls
pub mod Runs
pub mod Theorem
