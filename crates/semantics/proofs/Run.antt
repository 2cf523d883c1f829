-- Entries and runs: question 7 as crossing out marks, the equations of a run cycle by cycle, where a book
-- first goes wrong, and the samples.
pub mod CrossOut
pub mod EntriesLaws
pub mod EntryCounts
pub mod RunLaws
pub mod FirstWrong
pub mod SamplesPass
