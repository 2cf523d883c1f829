-- The values of a well-formed state are in the range of their widths, and so are those that a cycle stores: a variable
-- keeps of a value its low bits, as many as its width.
use mathlib.Core.Path.{◌≡◌, refl, sym, subst}
use mathlib.Core.Bool.{Bool, true, false, cond}
use mathlib.Core.List.{List, [], ◌∷◌, foldl}
use mathlib.Core.Option.{Option, none, some}
use Prim.Native.Nat.{ℕ, ◌^◌, ◌<◌}
use native.Mathlib.Nat.{mod-lt}
use lib.Dec.{eqb, ltb}
use lib.ListN.{length, get_or, set, length-set}
use lib.Seq.{get_or-set_same, get_or-set_other}
use lib.Pow.{pow_pos}
use borrow.Author.Tests.{eqb-true, eqb-false, lt-ltb, ltb-true}
use Rattle.semantics.specs.Program.{Program}
use Rattle.semantics.specs.Expressions.{expr_values}
use Rattle.semantics.specs.Widths.{width_at, truncated, values_in_range}
use Rattle.semantics.specs.State.{State, control_formed, well_formed}
use Rattle.semantics.specs.Completion.{store_value, stores, target, source, store}
use Rattle.semantics.specs.Cycle.{new_values}
use Rattle.semantics.proofs.Lists.Logic.{and_left, and_right, both}
use Rattle.semantics.proofs.Lists.NumberLaws.{every_below, all-below}

-- ---- the two parts of question 6

module _ (P : Program) (s : State) where
  pub values_in_range_lem : well_formed P s ≡ true → values_in_range P.widths s.values ≡ true
  unfolding well_formed
  values_in_range_lem h = and_left _ _ h

  pub control_formed_lem : well_formed P s ≡ true → control_formed P.nodes s.marks s.counts ≡ true
  unfolding well_formed
  control_formed_lem h = and_right (values_in_range P.widths s.values) _ h

  pub well_formed_lem : values_in_range P.widths s.values ≡ true
      → control_formed P.nodes s.marks s.counts ≡ true → well_formed P s ≡ true
  unfolding well_formed
  well_formed_lem v c = both v c

-- ---- value by value

module _ (widths : List ℕ) where
  abbrev pub InRange : List ℕ → Type 0
  InRange values = (v : ℕ) → v < length values → get_or values v 0 < 2 ^ width_at widths v

  pub in_range : (values : List ℕ) → values_in_range widths values ≡ true → InRange values
  unfolding values_in_range
  in_range values h v l = ltb-true _ _ (every_below (λ v. ltb (get_or values v 0) (2 ^ width_at widths v)) _ h v l)

  pub range_in : (values : List ℕ) → InRange values → values_in_range widths values ≡ true
  unfolding values_in_range
  range_in values h =
      all-below (λ v. ltb (get_or values v 0) (2 ^ width_at widths v)) (length values) (λ v l. lt-ltb _ _ (h v l))

  -- what a variable keeps is in its range
  pub truncated_in_range : (v value : ℕ) → truncated widths v value < 2 ^ width_at widths v
  truncated_in_range v value = mod-lt value (pow_pos (width_at widths v))

  set-in_range : (values : List ℕ) (v value : ℕ) → InRange values → InRange (set values v (truncated widths v value))
  set-in_range values v value h w l = pick (eqb w v) refl
    where
      inside : w < length values
      inside = subst (λ (n : ℕ). w < n) (length-set values v (truncated widths v value)) l

      pick : (b : Bool) → eqb w v ≡ b → get_or (set values v (truncated widths v value)) w 0 < 2 ^ width_at widths w
      pick true e =
          let same : w ≡ v = eqb-true w v e in
          subst (λ (u : ℕ). u < length values
          → get_or (set values v (truncated widths v value)) u 0 < 2 ^ width_at widths u) (sym same)
          (λ i. rw (get_or-set_same values v (truncated widths v value) 0 i) (truncated_in_range v value)) inside
      pick false e =
          rw (get_or-set_other values v w (truncated widths v value) 0 (eqb-false w v e)) (h w inside)

  store_value-in_range : (table values : List ℕ) (v : ℕ) (e : Option ℕ) → InRange values
      → InRange (store_value widths table values v e)
  store_value-in_range table values v none h = h
  store_value-in_range table values v (some e) h = set-in_range values v (get_or table e 0) h

-- ---- the stores of a cycle

module _ (P : Program) (marks table : List ℕ) where
  store_in_range : (values : List ℕ) (i : ℕ) → InRange P.widths values
      → InRange P.widths (store P marks table values i)
  unfolding store
  store_in_range values i h = pick (stores P marks i)
    where
      pick : (b : Bool) → InRange P.widths
          (cond b (store_value P.widths table values (target P marks i) (source P marks i)) values)
      pick true = store_value-in_range P.widths table values (target P marks i) (source P marks i) h
      pick false = h

  stores_in_range : (values entries : List ℕ) → InRange P.widths values
      → InRange P.widths (foldl (store P marks table) values entries)
  stores_in_range values [] h = h
  stores_in_range values (i ∷ is) h = stores_in_range (store P marks table values i) is (store_in_range values i h)

pub new_values-in_range : (P : Program) (s : State) (entries : List ℕ)
    → values_in_range P.widths s.values ≡ true → values_in_range P.widths (new_values P s entries) ≡ true
unfolding new_values
new_values-in_range P s entries h =
    range_in P.widths _
    (stores_in_range P s.marks (expr_values P.exprs s.values) s.values entries (in_range P.widths _ h))
