-- Question 7 as the code asks it. As many entries as there are marks are the active statements exactly when all of them
-- can be crossed out; and marking again what was crossed out gives the marks back.
use mathlib.Core.Path.{◌≡◌, refl, sym, ap, ◌∙◌, subst}
use mathlib.Core.Bool.{Bool, true, false, cond, not}
use mathlib.Core.List.{List, [], ◌∷◌}
use Prim.Native.Nat.{ℕ, zero, suc, ◌+◌, ◌≤◌, ◌<◌, zero-le}
use native.Mathlib.Nat.{zero-add}
use native.Mathlib.Numerals.{add-one}
use native.Mathlib.Omega.{arith}
use lib.Dec.{eqb, leb}
use lib.ListN.{length, get_or, set, take, drop, replicate, drop_of_length-le}
use lib.Seq.{take-add, take-length, drop-cons, set-set, set-get_or}
use Rattle.std.proofs.lemmas.Grind.{fold-append, elements}
use Rattle.std.proofs.lemmas.List.{take_rest}
use Rattle.std.proofs.lemmas.List.Sums.{fold_more}
use borrow.Author.Tests.{eq-eqb}
use Rattle.semantics.specs.Numbers.{every}
use Rattle.semantics.specs.State.{marked, mark_count, marks_are_bits}
use Rattle.semantics.specs.Cycle.{are_active}
use Rattle.semantics.proofs.Lists.ActiveLaws.{marked_below}
use Rattle.semantics.proofs.Run.CrossOut.{cross_out, mark_count-cross, no_mark_count, active-cross_out}
use Rattle.player.specs.Entries.{crossable, set_all, CrossedOut}

-- ---- one word at every entry

-- the same word at two places, in either order
set-swap : (marks : List ℕ) (i j word : ℕ) → set (set marks i word) j word ≡ set (set marks j word) i word
set-swap marks i j word = grind (arith, elements)

set_all-set : (word : ℕ) (marks es : List ℕ) (e : ℕ)
    → set_all word (set marks e word) es ≡ set (set_all word marks es) e word
set_all-set word marks [] e = refl
set_all-set word marks (x ∷ es) e =
    ap (λ (m : List ℕ). set_all word m es) (set-swap marks e x word) ∙ set_all-set word (set marks x word) es e

-- the next entries have the word too
pub set_all-more : (word : ℕ) (marks es : List ℕ) (a b : ℕ)
    → set_all word (set_all word marks (take a es)) (take b (drop a es)) ≡ set_all word marks (take (a + b) es)
set_all-more word marks es a b =
    sym (ap (set_all word marks) (take-add a b es)
    ∙ fold-append (λ m e. set m e word) marks (take a es) (take b (drop a es)))

-- ---- how many entries can be crossed out

pub crossable_most : (marks entries : List ℕ) → crossable marks entries ≤ length entries
unfolding crossable
crossable_most marks [] = zero-le
crossable_most marks (e ∷ es) = grind (arith, crossable_most (set marks e 0) es)

-- the entries from k on, by the first of them
pub crossable_next : (marks entries : List ℕ) (k : ℕ) → k < length entries
    → crossable marks (drop k entries)
    ≡ cond (marked marks (get_or entries k 0))
    (suc (crossable (set marks (get_or entries k 0) 0) (drop (k + 1) entries))) 0
unfolding crossable
crossable_next marks entries k l = rw (add-one k, drop-cons entries k 0 l)

crossing : (entries marks : List ℕ) → length entries ≡ mark_count marks
    → cross_out entries marks ≡ eqb (crossable marks entries) (length entries)
unfolding cross_out crossable
crossing [] marks e = sym (no_mark_count marks) ∙ eq-eqb 0 (mark_count marks) e
crossing (e ∷ es) marks same = grind (arith, crossing es (set marks e 0), mark_count-cross marks e)

-- question 7 is answered yes exactly when all entries can be crossed out
pub active_crossable : (marks entries : List ℕ) → length entries ≡ mark_count marks
    → are_active marks entries ≡ eqb (crossable marks entries) (length entries)
active_crossable marks entries same = active-cross_out marks entries ∙ crossing entries marks same

-- each entry that can be crossed out is a node's number
pub crossable_below : (marks entries : List ℕ) (j : ℕ) → j < crossable marks entries
    → get_or entries j 0 < length marks
unfolding crossable
crossable_below marks [] j l = absurd (omega arith)
crossable_below marks (e ∷ es) zero l = grind (arith, marked_below marks e)
crossable_below marks (e ∷ es) (suc j) l = grind (arith, elements, crossable_below (set marks e 0) es j)

-- ---- entry by entry

pub crossed_none : {entries marks : List ℕ} → CrossedOut entries marks 0 marks
crossed_none = record { within = zero-le; same_length = refl; right = refl; rest = sym (zero-add _) }

module _ {entries start : List ℕ} {k : ℕ} {marks : List ℕ} (h : CrossedOut entries start k marks) where
  -- all are crossed out
  pub crossed_whole : length entries ≤ k → CrossedOut entries start (length entries) marks
  crossed_whole l =
      let within = h.within in
      let e : k ≡ length entries = omega arith in
      subst (λ (n : ℕ). CrossedOut entries start n marks) e h

  pub crossed-all : length entries ≤ k → length entries ≡ crossable start entries
  unfolding crossable
  crossed-all l = grind (arith, h.within, h.rest, drop_of_length-le entries {i = k} l)

  module _ (l : k < length entries) where
    -- the next has no mark, or none any more
    pub crossed_stops : marked marks (get_or entries k 0) ≡ false → crossable marks (drop k entries) ≡ 0
    crossed_stops m = grind (arith, crossable_next marks entries k l)

    -- the next is crossed out
    pub crossed_next : marked marks (get_or entries k 0) ≡ true
        → CrossedOut entries start (k + 1) (set marks (get_or entries k 0) 0)
    crossed_next m = record {
      within = omega arith;
      same_length = grind (arith, elements, h.same_length);
      right = grind (arith, h.right, fold_more (λ m e. set m e 0) start entries k 0 l);
      rest = grind (arith, h.rest, crossable_next marks entries k l);
    }

-- ---- crossed out and marked again

-- the first r entries
pub marked_again : (marks entries : List ℕ) (r : ℕ) → r ≤ crossable marks entries
    → set_all 1 (set_all 0 marks (take r entries)) (take r entries) ≡ marks
unfolding crossable
marked_again marks [] zero l = refl
marked_again marks [] (suc r) l = refl
marked_again marks (e ∷ es) zero l = refl
marked_again marks (e ∷ es) (suc r) l =
    grind (arith, set_all-set, marked_again (set marks e 0) es r, set-set, set-get_or)

module _ (marks entries : List ℕ) (r : ℕ) (e : r ≡ crossable marks entries) where
  -- the first r entries, those that are crossed out, are nodes
  pub part_length : r ≡ length (take r entries)
  part_length = grind (arith, elements, crossable_most marks entries)

  pub part_inside : (k : ℕ) → k < length (take r entries) → get_or (take r entries) k 0 < length marks
  part_inside k l = grind (arith, elements, crossable_most marks entries, crossable_below marks entries k)

  pub crossed_back : set_all 1 (set_all 0 marks (take r entries)) (take r entries) ≡ marks
  crossed_back = marked_again marks entries r (omega arith)

-- ---- all crossed out

-- no mark is 1 and none is above 1
no_bits : (marks : List ℕ) → every (λ m. not (eqb m 1)) marks ≡ true → every (λ m. leb m 1) marks ≡ true
    → marks ≡ replicate (length marks) 0
unfolding every
no_bits [] n b = refl
no_bits (m ∷ ms) n b = grind (arith, no_bits ms)

every_set : (f : ℕ → Bool) (xs : List ℕ) (i x : ℕ) → f x ≡ true → every f xs ≡ true → every f (set xs i x) ≡ true
unfolding every
every_set f [] i x h a = refl
every_set f (y ∷ ys) zero x h a = grind arith
every_set f (y ∷ ys) (suc i) x h a = grind (arith, every_set f ys i x h)

crossed_zeros : (entries marks : List ℕ) → cross_out entries marks ≡ true → every (λ m. leb m 1) marks ≡ true
    → set_all 0 marks entries ≡ replicate (length marks) 0
unfolding cross_out
crossed_zeros [] marks o b = no_bits marks o b
crossed_zeros (e ∷ es) marks o b =
    grind (arith, elements, crossed_zeros es (set marks e 0), every_set (λ m. leb m 1) marks e 0 refl b)

module _ (marks entries : List ℕ) (active : are_active marks entries ≡ true) where
  pub all-crossable : crossable marks entries ≡ length entries
  unfolding are_active
  all-crossable = grind (arith, active_crossable marks entries)

  pub all-taken : take (crossable marks entries) entries ≡ entries
  all-taken = ap (λ (k : ℕ). take k entries) all-crossable ∙ take-length entries

  pub all_fit : (j : ℕ) → j < length entries → get_or entries j 0 < length marks
  all_fit j l = crossable_below marks entries j (rw all-crossable l)

  pub all-marked_again : set_all 1 (set_all 0 marks entries) entries ≡ marks
  all-marked_again =
      ap (λ (es : List ℕ). set_all 1 (set_all 0 marks es) es) (sym all-taken)
      ∙ marked_again marks entries (crossable marks entries) (omega arith)

  module _ (bits : marks_are_bits marks ≡ true) where
    pub all-crossed : set_all 0 marks entries ≡ replicate (length marks) 0
    unfolding marks_are_bits
    all-crossed = crossed_zeros entries marks (sym (active-cross_out marks entries) ∙ active) bits

    -- the active statements alone, marked
    pub all-marked : set_all 1 (replicate (length marks) 0) entries ≡ marks
    all-marked = ap (λ (m : List ℕ). set_all 1 m entries) (sym all-crossed) ∙ all-marked_again

-- what `refused_by` needs: it crosses the other entries out as far as it can, and marks all again that are crossed out
pub ruleset refusing = (take_rest, set_all-more, crossable_most, part_length, part_inside, crossed_back)
