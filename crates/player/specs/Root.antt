-- What entering node 0 in code promises to begin.
use Rattle.std.specs.Prelude.{◌≡◌, not, cond, List, ℕ, Result, ⊤}
use Rattle.semantics.specs.Walk.{Walk}
use Rattle.program.specs.declared.refusal.Refusal.{Refusal}
use Rattle.program.specs.declared.refusal.Refusal.TheVariants.{Loop}
use Rattle.program.specs.Answer.{answer_to}

-- Marks and counts are those of the walk w, or stay where it met a zero-time loop, which is refused.
pub record WrittenUnlessLooped (w : Walk) (marks₀ counts₀ : List ℕ) (answer : Result ⊤ Refusal) (marks counts : List ℕ)
    : Type 0 where
  pub right_answer : answer ≡ answer_to (not w.looped) Loop
  pub right_marks : marks ≡ cond w.looped marks₀ w.marks
  pub right_counts : counts ≡ cond w.looped counts₀ w.counts
