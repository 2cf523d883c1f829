-- Widths and masks in code: the mask of a width, what a variable keeps by its mask, and the masks that a run starts
-- with.
use Rattle.std.proofs.Common.{◌≡◌, ℕ, ◌-◌, ◌/◌, ◌^◌, ◌<◌, ◌≤◌, zero, suc, Bool, eqb, leb, ltb, List, length, get_or, refl, sym, ap, ◌∙◌, arith}
use lib.Bits.{and_mask}
use lib.Pow.{le_ones, lt_of_le_ones}
use borrow.Author.Tests.{eqb-true, leb-true}
use Rattle.std.specs.List.{list_all, range_with_len}
use Rattle.semantics.specs.Numbers.{up_from, below, every}
use Rattle.semantics.specs.Widths.{width_at, truncated, width_ok, values_in_range}
use Rattle.semantics.proofs.Lists.Logic.{and_left, and_right}
use Rattle.semantics.proofs.Lists.NumberLaws.{every_below}
use Rattle.program.specs.declared.accepted.Accepted.{Accepted as AcceptedCode}
use Rattle.player.specs.declared.work.Work.{Work}
use Rattle.player.specs.Work.{Masks, masked_by}
use Rattle.player.proofs.AcceptedLaws.{is_accepted, variables_fit}

-- the widths of an accepted program
pub width_fits : (program : AcceptedCode) (v : ℕ) → v < program.lists.vars
    → (v < 256) × (1 ≤ width_at program.lists.widths.now v) × (width_at program.lists.widths.now v ≤ 16)
unfolding width_ok
width_fits program v l =
    let width = width_at program.lists.widths.now v in
    let ok = (is_accepted program).widths_fit.each v l in
    let fit = variables_fit program in
    (omega arith, leb-true 1 width (and_left _ _ ok), leb-true width 16 (and_right (leb 1 width) _ ok))

-- the low bits of a word, so many as the width says
pub mask_right : (width : ℕ) → width ≤ 16 → 65535 / 2 ^ (16 - width) ≡ 2 ^ width - 1
unfolding every up_from
mask_right width l =
    eqb-true _ _ (every_below (λ w. eqb (65535 / 2 ^ (16 - w)) (2 ^ w - 1)) 17 refl width (omega arith))

-- what `greatest` needs
pub ruleset greatest_value = (width_fits, mask_right)

-- a variable keeps by its mask what it keeps by its width
pub masked : (widths : List ℕ) (work : Work) (v value : ℕ) → Masks widths work → v < 256
    → masked_by work v value ≡ truncated widths v value
masked widths work v value masks l = rw (masks v l) (and_mask value (width_at widths v))

-- ---- the values' part of question 6

-- at most the mask is less than the power
within_mask : (w x : ℕ) → leb x (2 ^ w - 1) ≡ ltb x (2 ^ w)
within_mask w x = grind (arith, lt_of_le_ones, le_ones)

all-from : (f g : ℕ → Bool) → ((v : ℕ) → f v ≡ g v) → (n a : ℕ)
    → list_all f (range_with_len a n) ≡ every g (up_from n a)
unfolding every up_from
all-from f g same zero a = refl
all-from f g same (suc n) a = grind (arith, same, all-from f g same n (suc a))

pub values_within : (widths values : List ℕ) (n : ℕ) → length values ≡ n
    → list_all (λ v. leb (get_or values v 0) (2 ^ width_at widths v - 1)) (range_with_len 0 n)
    ≡ values_in_range widths values
unfolding values_in_range
values_within widths values n e =
    all-from _ (λ v. ltb (get_or values v 0) (2 ^ width_at widths v))
    (λ v. within_mask (width_at widths v) (get_or values v 0)) n 0
    ∙ ap (λ (k : ℕ). every (λ v. ltb (get_or values v 0) (2 ^ width_at widths v)) (below k)) (sym e)
