-- The order of the entries does not show: two due leaves commute in the tree, so the walks and the stores of a cycle
-- come to the same lists in every order, and so do all cycles of a run. Beside it, what widths do: values stay in
-- range, and papers from before them keep their answers. And which fault an answer names.
pub mod TreeCommute
pub mod Load
pub mod AnyOrder
pub mod WalksOnTree
pub mod Stores
pub mod InRange
pub mod CycleOrder
pub mod OrderOverCycles
pub mod OrderRule
pub mod RunTheorems
pub mod VariableWidths
pub mod OldPapers
pub mod FirstFault
