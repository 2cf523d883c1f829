-- Laws of lists that are read with a value for what is past their end.
use mathlib.Core.Path.{sym, subst}
use mathlib.Core.List.{List}
use mathlib.Core.Logic.{◌≢◌, inl, inr}
use Prim.Native.Nat.{ℕ, ◌<◌}
use lib.Dec.{eqb}
use lib.ListN.{length, get_or, set}
use lib.Seq.{get_or-set_same, get_or-set_other}
use borrow.Author.Tests.{eqb-true, eqb-false}
use Rattle.semantics.proofs.Lists.Logic.{true_or_false}

-- After a list is written at place i: what holds of i and what was written, and of each other place and what is read
-- there before, holds of every place and what is read there now.
module _ {X : Type 0} (list : List X) (i : ℕ) (written past : X) (inside : i < length list) (P : ℕ → X → Type 0)
    (here : P i written) where
  pub set_reads : (k : ℕ) → (k ≢ i → P k (get_or list k past)) → P k (get_or (set list i written) k past)
  set_reads k other = elim (true_or_false (eqb k i)) [
    | inl t ↦
        subst (λ (x : ℕ). P x (get_or (set list i written) x past)) (sym (eqb-true k i t))
        (subst (P i) (sym (get_or-set_same list i written past inside)) here)
    | inr f ↦
        let n : k ≢ i = eqb-false k i f in
        subst (P k) (sym (get_or-set_other list i k written past n)) (other n)
  ]
