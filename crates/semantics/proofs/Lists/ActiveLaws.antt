-- What holds of the active statements, told by the marks, so that the list of them is never unfolded again.
-- The laws rest on those of `filter`, and on that no mark stands past the end of the list.
use mathlib.Core.Path.{◌≡◌, sym, ap, ◌∙◌}
use mathlib.Core.Bool.{Bool, true, false, not, ◌&&◌, ◌||◌, true≢false}
use mathlib.Core.List.{List}
use mathlib.Core.Logic.{inl, inr, ◌↔◌}
use Prim.Native.Nat.{ℕ, ◌≤◌, ◌<◌}
use native.Mathlib.Omega.{arith}
use lib.Dec.{eqb, ltb}
use lib.ListN.{length, get_or-eq_default}
use borrow.Author.Tests.{ltb-true, lt-ltb}
use Rattle.semantics.specs.Numbers.{below, every, any}
use Rattle.semantics.specs.State.{marked, active, mark_count}
use Rattle.semantics.proofs.Lists.Logic.{and_left, and_right, both, implies, lt_or_le}
use Rattle.semantics.proofs.Lists.NumberLaws.{every_at, every-all, every-filter, any_at, any-find, any-filter}
use Rattle.semantics.proofs.Lists.NumberLaws.{any-length}

module _ (marks : List ℕ) where
  -- ---- no mark stands past the end
  pub unmarked_past : (i : ℕ) → length marks ≤ i → marked marks i ≡ false
  unmarked_past i l = ap (λ (m : ℕ). eqb m 1) (get_or-eq_default marks 0 l)

  pub marked_below : (i : ℕ) → marked marks i ≡ true → i < length marks
  marked_below i m =
      elim (lt_or_le i (length marks)) [ inl l ↦ l | inr l ↦ absurd (true≢false (sym m ∙ unmarked_past i l)) ]

  -- ---- tests of the active statements
  pub every_active : (f : ℕ → Bool) → every f (active marks) ≡ true ↔ ((i : ℕ) → marked marks i ≡ true → f i ≡ true)
  every_active f = (to, from)
    where
      test : ℕ → Bool
      test i = not (marked marks i) || f i

      on_marked : every f (active marks) ≡ every test (below (length marks))
      on_marked = every-filter f (marked marks) (below (length marks))

      to : every f (active marks) ≡ true → (i : ℕ) → marked marks i ≡ true → f i ≡ true
      to h i m =
          let l = marked_below i m in
          (implies (marked marks i) (f i)).0
          (every_at test (length marks) 0 i (sym on_marked ∙ h) (omega arith) (omega arith)) m

      from : ((i : ℕ) → marked marks i ≡ true → f i ≡ true) → every f (active marks) ≡ true
      from h = on_marked ∙ every-all test (length marks) 0 (λ i l u. (implies (marked marks i) (f i)).1 (h i))

  pub any-active : (f : ℕ → Bool) → any f (active marks) ≡ true ↔ ((i : ℕ) × (marked marks i ≡ true) × (f i ≡ true))
  any-active f = (to, from)
    where
      test : ℕ → Bool
      test i = marked marks i && f i

      on_marked : any f (active marks) ≡ any test (below (length marks))
      on_marked = any-filter f (marked marks) (below (length marks))

      to : any f (active marks) ≡ true → (i : ℕ) × (marked marks i ≡ true) × (f i ≡ true)
      to h =
          let (i, e) = any-find test (below (length marks)) (sym on_marked ∙ h) in
          (i, and_left (marked marks i) _ e, and_right (marked marks i) _ e)

      from : (i : ℕ) × (marked marks i ≡ true) × (f i ≡ true) → any f (active marks) ≡ true
      from (i, m, e) =
          let l = marked_below i m in
          on_marked ∙ any_at test (length marks) 0 i (both m e) (omega arith) (omega arith)

  -- ---- the number of marks

  -- a mark stands exactly when the number of marks is not 0
  pub some_marked : (0 < mark_count marks) ↔ ((i : ℕ) × (marked marks i ≡ true))
  some_marked = (to, from)
    where
      any-marked : any (marked marks) (below (length marks)) ≡ ltb 0 (mark_count marks)
      any-marked = any-length (marked marks) (below (length marks))

      to : 0 < mark_count marks → (i : ℕ) × (marked marks i ≡ true)
      to h = any-find (marked marks) (below (length marks)) (any-marked ∙ lt-ltb 0 (mark_count marks) h)

      from : (i : ℕ) × (marked marks i ≡ true) → 0 < mark_count marks
      from (i, m) =
          let l = marked_below i m in
          ltb-true 0 (mark_count marks)
          (sym any-marked ∙ any_at (marked marks) (length marks) 0 i m (omega arith) (omega arith))
