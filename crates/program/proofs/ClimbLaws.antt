-- The search for a parent may climb from parent to parent: it goes among the nodes up to the one that is looked at.
use Rattle.std.proofs.Common.{◌≡◌, ℕ, suc, ◌<◌, ◌≤◌, List, Option, None, Some, sym, ◌∙◌, zero-le}
use Rattle.semantics.specs.Program.{end_at}
use Rattle.semantics.specs.Parents.{parent_below, parent}
use Rattle.semantics.proofs.Lists.ParentLaws.{is_parent}
use Rattle.semantics.proofs.Lists.ParentSearch.{search_covers, climb_none, climb_some}
use Rattle.program.specs.Places.{parent_in}

-- how many nodes there are up to a node that is looked at
abbrev pub up_to : Option ℕ → ℕ
up_to None = 0
up_to (Some h) = suc h

module _ (nodes : List ℕ) (h : ℕ) where
  pub lower : (above : Option ℕ) → parent_in above ≡ parent nodes h → up_to above ≤ h
  lower None e = zero-le
  lower (Some p) e = (is_parent nodes h p (sym e)).lower

  module _ (i : ℕ) where
    pub parent_found : i < end_at nodes h → parent_below nodes i (suc h) ≡ parent nodes i
        → parent_in (Some h) ≡ parent nodes i
    parent_found covers e = sym (search_covers nodes i h covers) ∙ e

    pub climb : h < i → end_at nodes h ≤ i → (above : Option ℕ) → parent_in above ≡ parent nodes h
        → parent_below nodes i (up_to above) ≡ parent_below nodes i (suc h)
    climb l ended None e = sym (climb_none nodes i h l ended (sym e))
    climb l ended (Some p) e = sym (climb_some nodes i h p l ended (sym e))

pub ruleset climbing = (parent_found, lower, climb)
