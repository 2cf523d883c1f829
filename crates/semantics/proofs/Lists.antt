-- Laws of numbers, lists, words, tests and questions, and of what holds of any node list: parents and active statements.
-- Nothing here knows of the statement tree.
pub mod Logic
pub mod NumberLaws
pub mod ListLaws
pub mod QuestionLaws
pub mod FaultLaws
pub mod LeafKinds
pub mod WordLaws
pub mod ParentLaws
pub mod ParentSearch
pub mod ActiveLaws
pub mod OneResult
