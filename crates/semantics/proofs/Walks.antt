-- Entering and leaving: laws by kinds over the flat list, the state kept in the tree with walks of its own, and that
-- the walks over the lists are those.
pub mod EnterLaws
pub mod LeaveLaws
pub mod TurnLaws
pub mod LeaveFrames
pub mod TreeState
pub mod TreeWalk
pub mod TreeInvariant
pub mod FlatLists
pub mod EnterOnTree
pub mod LeaveOnTree
pub mod ReadBack
pub mod LeafNumbers
