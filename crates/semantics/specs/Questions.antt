-- How a call answers, from the section "Questions in order" and request 2: with the number of the first question
-- answered no, or 0, and with the first fault where that question is asked of many.
use Rattle.std.specs.Prelude.{Bool, cond, not, List, [], ◌∷◌, ℕ}
use Rattle.std.proofs.Math.Option.{get_or}
use Rattle.semantics.specs.Numbers.{below, find}

-- A question's number, and whether it is answered yes.
pub record Question : Type 0 where
  pub number : ℕ
  pub yes : Bool

abbrev pub ask : ℕ → Bool → Question
ask q b = record { number = q; yes = b }

-- The number of the first question answered no.
abbrev pub first_no : List Question → ℕ
first_no [] = 0
first_no (q ∷ qs) = cond q.yes (first_no qs) q.number

-- The lowest index below n that fails a test, or 0 where none does.
unfoldable pub lowest_fault : (ℕ → Bool) → ℕ → ℕ
lowest_fault ok n = get_or (find (λ i. not (ok i)) (below n)) 0
