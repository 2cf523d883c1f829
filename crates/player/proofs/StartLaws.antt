-- What a run starts with in `work`, place after place.
use Rattle.std.proofs.Common.{◌≡◌, ℕ, zero, suc, ◌-◌, ◌^◌, ◌<◌, ◌≤◌, List, length, get_or, set, replicate, refl, sym, ap, ◌∙◌, inl, inr, arith, rules, length-set}
use Rattle.std.proofs.lemmas.Grind.{common_steps}
use Rattle.std.proofs.lemmas.List.{places, length-replicate}
use lib.ListN.{get_or-eq_default}
use borrow.Rule.Slice.PartMut.{put_mid}
use Rattle.semantics.specs.Widths.{width_at}
use Rattle.semantics.proofs.Lists.Logic.{lt_or_le}
use Rattle.semantics.proofs.Lists.NumberLaws.{zeros}
use Rattle.program.specs.declared.accepted.Accepted.{Accepted as AcceptedCode}
use Rattle.program.specs.Accepted.{accepted_in}
use Rattle.player.specs.declared.memo.Memo.{Memo}
use Rattle.player.specs.Memo.{Known, new_memo}
use Rattle.player.proofs.AcceptedLaws.{is_accepted}
use Rattle.player.proofs.AcceptedNodeLaws.{nodes_fit}
use Rattle.player.proofs.MaskLaws.{width_fits}
use Rattle.player.proofs.MemoLaws.{known_unworked}

-- ---- the values of the variables

-- written over the first of zeros, at the first moment, at which nothing is worked
module _ (values list : List ℕ) (blank : list ≡ replicate 256 0) (fit : length values ≤ 256) where
  abbrev written : List ℕ
  written = put_mid 0 (length values) list values

  pub known_written : (exprs : List ℕ) → Known exprs (record new_memo { variables = written })
  known_written exprs =
      let memo : Memo = record new_memo { variables = written } in
      let size : length list ≡ 256 = rw blank (length-replicate {A = ℕ} 256 0) in
      known_unworked exprs memo memo (record {
        size = record {
          variables = search (rules, places, fit, size);
          formulas = length-replicate {A = ℕ} 1024 0;
          moments = length-replicate {A = ℕ} 1024 0;
        };
        variables = refl;
        unknown = λ e l. rw (zeros 1024 e) (omega arith);
      })

  pub value_written : (v : ℕ) → get_or written v 0 ≡ get_or values v 0
  value_written v = elim (lt_or_le v (length values)) [
    | inl l ↦ search (rules, places, fit, l)
    | inr l ↦
        let last : get_or written v 0 ≡ get_or list v 0 = search (rules, places, fit, l) in
        last ∙ rw blank (zeros 256 v) ∙ sym (get_or-eq_default values 0 l)
  ]

-- ---- a list that a loop fills

-- f k is written at each of the first n places k
abbrev pub filled_to : (ℕ → ℕ) → List ℕ → ℕ → List ℕ
filled_to f list zero = list
filled_to f list (suc n) = set (filled_to f list n) n (f n)

length-filled : (f : ℕ → ℕ) (list : List ℕ) (n : ℕ) → length (filled_to f list n) ≡ length list
length-filled f list zero = refl
length-filled f list (suc n) = length-set (filled_to f list n) n (f n) ∙ length-filled f list n

pub filled_at : (f : ℕ → ℕ) (list : List ℕ) (n k : ℕ) → k < length list → k < n → get_or (filled_to f list n) k 0 ≡ f k
filled_at f list zero k fit l = absurd (omega arith)
filled_at f list (suc n) k fit l = grind (arith, common_steps, length-filled f list n, filled_at f list n k)

past_filled : (f : ℕ → ℕ) (list : List ℕ) (n k : ℕ) → n ≤ k → get_or (filled_to f list n) k 0 ≡ get_or list k 0
past_filled f list zero k l = refl
past_filled f list (suc n) k l = grind (arith, common_steps, past_filled f list n k)

abbrev pub mask_in : AcceptedCode → ℕ → ℕ
mask_in program v = 2 ^ width_at (accepted_in program).widths v - 1

-- the widths are as many as the variables: past them there is no bit, and the mask is 0
pub mask_filled : (program : AcceptedCode) (n v : ℕ) → n ≡ program.lists.vars → v < 256
    → get_or (filled_to (mask_in program) (replicate 256 0) n) v 0 ≡ mask_in program v
mask_filled program n v e fit =
    let many = (is_accepted program).widths_fit.as_many in
    elim (lt_or_le v n) [
      | inl l ↦ filled_at (mask_in program) (replicate 256 0) n v (omega (arith, length-replicate {A = ℕ} 256 0)) l
      | inr l ↦
          past_filled (mask_in program) (replicate 256 0) n v l ∙ zeros 256 v
          ∙ sym (ap (λ (w : ℕ). 2 ^ w - 1) (get_or-eq_default (accepted_in program).widths 0 (omega arith)))
    ]

-- a parent at each node: as many as fit
pub ruleset parents_filled = (nodes_fit, length-replicate, filled_at)

-- a mask at each variable: as many as fit
pub ruleset masks_filled = (width_fits, mask_filled)
