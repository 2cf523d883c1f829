-- In reading order; each folder's own file tells what is in it.

-- numbers, tests, questions, kinds and ops, and what holds of any node list
pub mod Lists
-- the statement tree of a node list, and question 6 along it
pub mod Tree
-- entering and leaving, on the flat lists and in the tree
pub mod Walks
-- entries, stores and runs, where a book first goes wrong, and the samples
pub mod Run
-- the order of the entries does not show: one cycle, all cycles, the order rule and the theorems beside it, among them
-- those on widths
pub mod Order
-- papers as files: words in bytes, reading and writing, and both ways round
pub mod Files
-- what is proved, on a page
pub mod Main
