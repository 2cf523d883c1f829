-- Stores in a list: one store more, and what variables keep of them.
use mathlib.Core.List.{foldl-append, foldr-append}
use Rattle.std.proofs.Common.{◌≡◌, ℕ, suc, ◌+◌, ◌<◌, List, [], ◌∷◌, ◌++◌, length, take, set, ap, ◌∙◌, refl, arith, add-one}
use Rattle.std.proofs.Math.Seq.{take-suc}
use Rattle.semantics.specs.Widths.{truncated}
use Rattle.player.specs.declared.stores.Store.{Store}
use Rattle.player.specs.declared.work.Work.{Work}
use Rattle.player.specs.Work.{Masks, masked_by}
use Rattle.player.specs.Stores.{listed_store, variable_at, put_all, taken_back}
use Rattle.player.proofs.MaskLaws.{masked}

-- a store of nothing, which is read past the end of a list
abbrev pub no_store : Store
no_store = record { variable = record { 0 = 0 }; value = 0 }

pub take_next : (list : List Store) (n : ℕ) → n < length list
    → take (n + 1) list ≡ take n list ++ listed_store list n ∷ []
take_next list n l = ap (λ (m : ℕ). take m list) (add-one n) ∙ take-suc list n no_store l

-- the last store of a list is made last, and taken back first
module _ (list : List Store) (store : Store) (values : List ℕ) where
  pub put_last : (keep : ℕ → ℕ → ℕ) → put_all keep (list ++ store ∷ []) values
      ≡ set (put_all keep list values) store.variable.0 (keep store.variable.0 store.value)
  put_last keep = foldl-append _ values list (store ∷ [])

  pub back_last : taken_back (list ++ store ∷ []) values ≡ taken_back list (set values store.variable.0 store.value)
  back_last = foldr-append _ values list (store ∷ [])

-- what variables keep by their masks is what they keep by their widths
pub put_masked : (widths : List ℕ) (work : Work) (list : List Store) (values : List ℕ) → Masks widths work
    → ((j : ℕ) → j < length list → variable_at list j < 256)
    → put_all (masked_by work) list values ≡ put_all (truncated widths) list values
put_masked widths work [] values masks fit = refl
put_masked widths work (store ∷ list) values masks fit =
    let first = masked widths work store.variable.0 store.value masks (fit 0 (omega arith)) in
    ap (λ (kept : ℕ). put_all (masked_by work) list (set values store.variable.0 kept)) first
    ∙ put_masked widths work list (set values store.variable.0 (truncated widths store.variable.0 store.value)) masks
    (λ j l. fit (suc j) (omega arith))
