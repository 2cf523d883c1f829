-- The rules, by the sections of the rules document and by the change requests.

-- tests, searches and sums that the rules use
pub mod Numbers
-- "Program lists"
pub mod Program
pub mod Expressions
pub mod Parents
pub mod Tree
-- request 1, with question 11
pub mod Widths
-- "State and book", with questions 5 and 6; its book is in Run and Book
pub mod State
-- "The plain machine", with questions 7 to 10
pub mod Walk
pub mod Completion
pub mod Cycle
pub mod Run
pub mod Book
-- "Questions in order": how a call answers, questions 1 to 4, begin and run
pub mod Questions
pub mod Check
pub mod Calls
-- request 3: papers as files, with questions 12 and 13
pub mod Bytes
pub mod File
pub mod FileCalls
-- request 4: the climb as a loop
pub mod Climb
-- "Sample papers", and the samples of request 3 with their files
pub mod SampleFiles
pub mod Samples
-- no rules: the questions as facts, for contracts
pub mod Facts
-- no rules: the rules without widths, for the theorem on old papers
pub mod Plain
