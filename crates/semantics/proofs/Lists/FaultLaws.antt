-- Laws of `lowest_fault` and `fault_item`: a lowest fault is what the search of the rules finds, a question answered no
-- has one, and each number its item.
use mathlib.Core.Path.{◌≡◌, refl, sym, ap, ◌∙◌, subst}
use mathlib.Core.Bool.{Bool, true, false, not, ◌&&◌, ◌||◌, true≢false}
use mathlib.Core.Logic.{◌≢◌, inl, inr}
use mathlib.Core.Option.{some, get_or}
use Prim.Native.Nat.{ℕ, zero, suc, ◌+◌, ◌≤◌, ◌<◌}
use native.Mathlib.Nat.{le_refl}
use native.Mathlib.Omega.{arith}
use lib.Dec.{eqb}
use lib.ListN.{length}
use borrow.Author.Tests.{eq-eqb, ne_eqb}
use Rattle.semantics.specs.Numbers.{up_from, below, every, find}
use Rattle.semantics.specs.Questions.{lowest_fault}
use Rattle.semantics.specs.Program.{Program, expr_count, node_count}
use Rattle.semantics.specs.Widths.{width_at, width_ok}
use Rattle.semantics.specs.Check.{expr_ok, node_ok, references_ok, fault_item}
use Rattle.semantics.specs.Facts.{IsLowestFault}
use Rattle.semantics.proofs.Lists.Logic.{or_left, or_right, lt_or_le}

-- ---- the search of the rules

find_first : (f : ℕ → Bool) (n a i : ℕ) → a ≤ i → i < a + n → f i ≡ true → ((j : ℕ) → a ≤ j → j < i → f j ≡ false)
    → find f (up_from n a) ≡ some i
unfolding find up_from
find_first f zero a i l u h lower = absurd (omega arith)
find_first f (suc n) a i l u h lower =
    elim (lt_or_le a i) [
      | inl v ↦
          rw (lower a (le_refl a) v)
          (find_first f n (suc a) i v (omega arith) h (λ j k w. lower j (omega arith) w))
      | inr v ↦ let e : a ≡ i = omega arith in rw (ap f e ∙ h) (ap some e)
    ]

module _ (ok : ℕ → Bool) where
  pub lowest_found : (n i : ℕ) → IsLowestFault ok n i → lowest_fault ok n ≡ i
  unfolding lowest_fault
  lowest_found n i f =
      ap (λ o. get_or o 0) (find_first (λ j. not (ok j)) n 0 i (omega arith) (omega (arith, f.within))
      (ap not f.fails) (λ j l u. ap not (f.lower_pass j u)))

  -- the lowest of n indices from a on
  abbrev LowestFrom : ℕ → ℕ → ℕ → Type 0
  LowestFrom n a i = (a ≤ i) × (i < a + n) × (ok i ≡ false) × ((j : ℕ) → a ≤ j → j < i → ok j ≡ true)

  lowest_from : (n a : ℕ) → every ok (up_from n a) ≡ false → (i : ℕ) × LowestFrom n a i
  unfolding every up_from
  lowest_from zero a h = absurd (true≢false h)
  lowest_from (suc n) a h = pick (ok a) refl h (lowest_from n (suc a))
    where
      later : ok a ≡ true → (i : ℕ) × LowestFrom n (suc a) i → (i : ℕ) × LowestFrom (suc n) a i
      later e (i, (l, u, fails, lower)) = (
        i,
        (
          omega arith,
          omega arith,
          fails,
          λ j k w. elim (lt_or_le a j) [
            | inl v ↦ lower j v w
            | inr v ↦ let q : a ≡ j = omega arith in subst (λ (x : ℕ). ok x ≡ true) q e
          ],
        ),
      )

      pick : (b : Bool) → ok a ≡ b → b && every ok (up_from n (suc a)) ≡ false
          → (every ok (up_from n (suc a)) ≡ false → (i : ℕ) × LowestFrom n (suc a) i)
          → (i : ℕ) × LowestFrom (suc n) a i
      pick true e t rec = later e (rec t)
      pick false e t rec = (a, (le_refl a, omega arith, e, λ j k w. absurd (omega arith)))

  -- a question that is asked of every index and answered no has a lowest fault
  pub lowest_fault_lem : (n : ℕ) → every ok (below n) ≡ false → IsLowestFault ok n (lowest_fault ok n)
  lowest_fault_lem n h =
      let (i, (_, u, fails, lower)) = lowest_from n 0 h in
      let f : IsLowestFault ok n i =
      record { within = omega arith; fails = fails; lower_pass = λ j w. lower j (omega arith) w } in
      subst (IsLowestFault ok n) (sym (lowest_found n i f)) f

-- ---- the item of a number

-- the numbers that come with an item
abbrev pub has_item : ℕ → Bool
has_item q = eqb q 2 || eqb q 3 || eqb q 4 || eqb q 11

module _ (P : Program) where
  pub item_2 : fault_item P 2 ≡ lowest_fault (expr_ok P) (expr_count P.exprs)
  unfolding fault_item
  item_2 = refl

  pub item_3 : fault_item P 3 ≡ lowest_fault (node_ok P.nodes) (node_count P.nodes)
  unfolding fault_item
  item_3 = refl

  pub item_4 : fault_item P 4 ≡ lowest_fault (references_ok P) (node_count P.nodes)
  unfolding fault_item
  item_4 = refl

  pub item_11 : length P.widths ≡ P.variables
      → fault_item P 11 ≡ lowest_fault (λ v. width_ok (width_at P.widths v)) P.variables
  unfolding fault_item
  item_11 e = rw (eq-eqb _ _ e)

  pub item_11-length : length P.widths ≢ P.variables → fault_item P 11 ≡ 0
  unfolding fault_item
  item_11-length e = rw (ne_eqb _ _ e)

  pub no_item : (q : ℕ) → has_item q ≡ false → fault_item P q ≡ 0
  unfolding fault_item
  no_item q h =
      let to-4 = or_left (eqb q 2 || eqb q 3 || eqb q 4) _ h in
      let to-3 = or_left (eqb q 2 || eqb q 3) _ to-4 in
      rw (
        or_left (eqb q 2) _ to-3,
        or_right (eqb q 2) _ to-3,
        or_right (eqb q 2 || eqb q 3) _ to-4,
        or_right (eqb q 2 || eqb q 3 || eqb q 4) _ h,
      )
