-- The number of marks, and when a node is marked.
use Rattle.std.proofs.Common.{◌≡◌, ◌≢◌, ℕ, zero, suc, ◌<◌, ◌≤◌, eqb, List, [], ◌∷◌, length, get_or, set, refl, arith}
use Rattle.std.specs.List.{filter}
use Rattle.semantics.specs.Numbers.{up_from, filter as rule_filter}
use Rattle.semantics.specs.State.{marked, mark_count}
use Rattle.semantics.proofs.Lists.NumberLaws.{count_most}
use Rattle.semantics.proofs.Run.CrossOut.{mark_count-cons}

pub mark_count-most : (marks : List ℕ) → mark_count marks ≤ length marks
mark_count-most marks = count_most (marked marks) (length marks) 0

-- one mark more
pub mark_count-mark : (marks : List ℕ) (i : ℕ) → i < length marks → get_or marks i 0 ≢ 1
    → mark_count (set marks i 1) ≡ suc (mark_count marks)
mark_count-mark [] i l h = absurd (omega arith)
mark_count-mark (m ∷ ms) zero l h = grind (arith, mark_count-cons)
mark_count-mark (m ∷ ms) (suc i) l h = grind (arith, mark_count-cons, mark_count-mark ms i)

-- what `mark` needs
pub ruleset marking = (mark_count-most, mark_count-mark)

-- counted by their values
pub mark_count-filter : (marks : List ℕ) → length (filter (λ m. eqb m 1) marks) ≡ mark_count marks
unfolding up_from rule_filter
mark_count-filter [] = refl
mark_count-filter (m ∷ ms) = grind (arith, mark_count-cons, mark_count-filter ms)
