-- The statement tree of a node list whose every node is ok: which nodes it has and where, what stands below and above
-- each, where two nodes meet, and question 6 told along the tree and node by node.
pub mod Positions
pub mod Agreement
pub mod NodeLaws
pub mod AncestorLaws
pub mod Meetings
pub mod TreeOfList
pub mod StatementLaws
pub mod ChildLaws
pub mod SiblingLaws
pub mod TreeWellFormed
pub mod LiveStatements
pub mod LiveChildren
pub mod WellFormedOnTree
pub mod WellFormedLocally
