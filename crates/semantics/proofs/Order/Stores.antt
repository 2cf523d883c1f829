-- The stores of a cycle come to the same values in every order of the entries, where question 9 is answered yes: two
-- completing leaves that store do not store to one variable, so their stores commute.
use mathlib.Core.Path.{◌≡◌, refl, sym, ap, ◌∙◌}
use mathlib.Core.Bool.{Bool, true, false, cond, ◌&&◌}
use mathlib.Core.List.{List, [], ◌∷◌, foldl}
use mathlib.Core.Logic.{◌≢◌, inl, inr}
use mathlib.Core.Option.{Option, none, some}
use Prim.Native.Nat.{ℕ, ◌≤◌, ◌<◌, zero-le}
use native.Mathlib.Omega.{arith}
use lib.Dec.{eqb, leb}
use lib.ListN.{length, length-set}
use lib.Seq.{set_comm, set_out}
use borrow.Author.Tests.{leb-true, eq-eqb}
use Rattle.semantics.specs.Numbers.{below, filter}
use Rattle.semantics.specs.Program.{Program}
use Rattle.semantics.specs.Expressions.{expr_values}
use Rattle.semantics.specs.State.{State, marked, active}
use Rattle.semantics.specs.Completion.{store_value, stores, target, source, targets_apart, store}
use Rattle.semantics.specs.Cycle.{are_active, new_values}
use Rattle.semantics.proofs.Lists.Logic.{and_left, both, lt_or_le}
use Rattle.semantics.proofs.Lists.NumberLaws.{every_at, count_two, filter-filter}
use Rattle.semantics.proofs.Lists.ActiveLaws.{marked_below}
use Rattle.semantics.proofs.Run.CrossOut.{cross_mark, active-cross_out, any_order}

-- ---- one store

put-length : (widths table values : List ℕ) (v : ℕ) (e : Option ℕ)
    → length (store_value widths table values v e) ≡ length values
put-length widths table values v none = refl
put-length widths table values v (some e) = length-set values v _

-- a store past the list's end is no store
put_out : (widths table values : List ℕ) (v : ℕ) (e : Option ℕ) → length values ≤ v
    → store_value widths table values v e ≡ values
put_out widths table values v none l = refl
put_out widths table values v (some e) l = set_out values v _ l

put_comm : (widths table values : List ℕ) (v w : ℕ) (e f : Option ℕ) → v ≢ w
    → store_value widths table (store_value widths table values v e) w f
    ≡ store_value widths table (store_value widths table values w f) v e
put_comm widths table values v w none f n = refl
put_comm widths table values v w (some e) none n = refl
put_comm widths table values v w (some e) (some f) n = set_comm values v w _ _ n

-- ---- the stores of a cycle

module _ (P : Program) (marks : List ℕ) where
  -- node i stores to variable v
  abbrev stores_to : ℕ → ℕ → Bool
  stores_to v i = stores P marks i && eqb (target P marks i) v

  -- question 9: no variable has two marked nodes that store to it
  one_store : targets_apart P marks ≡ true → (v i j : ℕ) → v < P.variables → i < j
      → marked marks i ≡ true → marked marks j ≡ true → stores_to v i ≡ true → stores_to v j ≡ true → ⊥
  unfolding targets_apart
  one_store h v i j l m mi mj si sj =
      let number : ℕ → ℕ = λ w. length (filter (stores_to w) (active marks)) in
      let most = leb-true (number v) 1 (every_at (λ w. leb (number w) 1) P.variables 0 v h zero-le (omega arith)) in
      let active_to : ℕ → Bool = λ k. marked marks k && stores_to v k in
      let inside = marked_below marks j mj in
      let two = count_two active_to (length marks) 0 i j (both mi si) (both mj sj) zero-le m (omega arith) in
      let same = ap length (filter-filter (marked marks) (stores_to v) (below (length marks))) in
      omega arith

  targets_differ : targets_apart P marks ≡ true → (i j : ℕ) → i ≢ j → marked marks i ≡ true → marked marks j ≡ true
      → stores P marks i ≡ true → stores P marks j ≡ true → target P marks i < P.variables
      → target P marks i ≢ target P marks j
  targets_differ h i j n mi mj si sj l e =
      let ti = both si (eq-eqb (target P marks i) (target P marks i) refl) in
      let tj = both sj (eq-eqb (target P marks j) (target P marks i) (sym e)) in
      elim (lt_or_le i j) [
        | inl v ↦ one_store h (target P marks i) i j l v mi mj ti tj
        | inr v ↦ one_store h (target P marks i) j i l (omega arith) mj mi tj ti
      ]

  -- ---- the stores of two nodes, and of all entries

  module _ (table : List ℕ) where
    pub store_length : (values : List ℕ) (i : ℕ) → length (store P marks table values i) ≡ length values
    unfolding store
    store_length values i = pick (stores P marks i)
      where
        pick : (b : Bool)
            → length (cond b (store_value P.widths table values (target P marks i) (source P marks i)) values)
            ≡ length values
        pick true = put-length P.widths table values (target P marks i) (source P marks i)
        pick false = refl

    pub stores-length : (values entries : List ℕ) → length (foldl (store P marks table) values entries) ≡ length values
    stores-length values [] = refl
    stores-length values (e ∷ es) = stores-length (store P marks table values e) es ∙ store_length values e

    module _ (apart : targets_apart P marks ≡ true) where
      store_commutes : (values : List ℕ) (i j : ℕ) → length values ≡ P.variables → i ≢ j
          → marked marks i ≡ true → marked marks j ≡ true
          → store P marks table (store P marks table values i) j ≡ store P marks table (store P marks table values j) i
      unfolding store
      store_commutes values i j l n mi mj = pick (stores P marks i) (stores P marks j) refl refl
        where
          put : ℕ → List ℕ → List ℕ
          put k old = store_value P.widths table old (target P marks k) (source P marks k)

          -- a store past the list's end is no store
          past : P.variables ≤ target P marks i → (old : List ℕ) → length old ≡ P.variables → put i old ≡ old
          past u old e = put_out P.widths table old (target P marks i) (source P marks i) (omega arith)

          pick : (b c : Bool) → stores P marks i ≡ b → stores P marks j ≡ c
              → cond c (put j (cond b (put i values) values)) (cond b (put i values) values)
              ≡ cond b (put i (cond c (put j values) values)) (cond c (put j values) values)
          pick true true si sj =
              elim (lt_or_le (target P marks i) P.variables) [
                | inl u ↦ put_comm P.widths table values (target P marks i) (target P marks j) (source P marks i)
                    (source P marks j) (targets_differ apart i j n mi mj si sj u)
                | inr u ↦
                    let same = put-length P.widths table values (target P marks j) (source P marks j) in
                    ap (put j) (past u values l) ∙ sym (past u (put j values) (same ∙ l))
              ]
          pick true false si sj = refl
          pick false true si sj = refl
          pick false false si sj = refl

      -- what has been stored to keeps its length, and the marks that are left are marks
      abbrev Fine : List ℕ → List ℕ → Type 0
      Fine left values = (length values ≡ P.variables) × ((i : ℕ) → marked left i ≡ true → marked marks i ≡ true)

      pub stores-any-order : (values es fs : List ℕ) → length values ≡ P.variables
          → are_active marks es ≡ true → are_active marks fs ≡ true
          → foldl (store P marks table) values es ≡ foldl (store P marks table) values fs
      stores-any-order values es fs l he hf =
          any_order (store P marks table) Fine
          (λ left a i f m. (
            store_length a i ∙ f.0,
            λ j h. f.1 j (and_left (marked left j) _ (sym (cross_mark left i j) ∙ h)),
          ))
          (λ left a i j f mi mj n. store_commutes a i j f.0 n (f.1 i mi) (f.1 j mj))
          es fs marks values (l, λ i h. h)
          (sym (active-cross_out marks es) ∙ he) (sym (active-cross_out marks fs) ∙ hf)

-- ---- the values after a cycle

pub new_values-length : (P : Program) (s : State) (entries : List ℕ)
    → length (new_values P s entries) ≡ length s.values
unfolding new_values
new_values-length P s entries = stores-length P s.marks (expr_values P.exprs s.values) s.values entries

pub new_values-any-order : (P : Program) (s : State) (es fs : List ℕ)
    → length s.values ≡ P.variables → targets_apart P s.marks ≡ true
    → are_active s.marks es ≡ true → are_active s.marks fs ≡ true → new_values P s es ≡ new_values P s fs
unfolding new_values
new_values-any-order P s es fs l apart he hf =
    stores-any-order P s.marks (expr_values P.exprs s.values) apart s.values es fs l he hf
