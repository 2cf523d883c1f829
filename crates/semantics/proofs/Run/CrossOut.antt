-- Crossing the entries of a cycle out of the marks, one each and all of them: another way to say that they are the
-- marked nodes, each once. The induction over the entries goes by it: any marked node may be pulled to the front, so a
-- fold whose steps commute comes to the same end in every order of the entries.
use mathlib.Core.Path.{◌≡◌, refl, sym, ap, ◌∙◌, subst}
use mathlib.Core.Bool.{Bool, true, false, cond, not, ◌&&◌, ◌||◌, true≢false, and-true, and-false, and_assoc}
use mathlib.Core.List.{List, [], ◌∷◌, foldl}
use mathlib.Core.Logic.{◌≢◌}
use Prim.Native.Nat.{ℕ, zero, suc}
use lib.Dec.{eqb, eqb-zero-suc, eqb-suc-suc}
use lib.ListN.{length, get_or, set}
use lib.Seq.{get_or-set_other, set_comm}
use borrow.Author.Tests.{ne_eqb, eqb-true, eqb-false, not-true}
use Rattle.semantics.specs.Numbers.{up_from, every, any, filter, member, distinct}
use Rattle.semantics.specs.State.{marked, mark_count}
use Rattle.semantics.specs.Cycle.{are_active}
use Rattle.semantics.proofs.Lists.Logic.{and_left, and_right, both}
use Rattle.semantics.proofs.Lists.NumberLaws.{count_suc, count_shift}

unfoldable pub cross_out : List ℕ → List ℕ → Bool
cross_out [] marks = every (λ m. not (eqb m 1)) marks
cross_out (e ∷ es) marks = marked marks e && cross_out es (set marks e 0)

-- ---- marks, and one mark crossed out

pub no_marks : (marks : List ℕ) (i : ℕ) → every (λ m. not (eqb m 1)) marks ≡ true → marked marks i ≡ false
unfolding every
no_marks [] i h = refl
no_marks (m ∷ ms) zero h = not-true (eqb m 1) (and_left _ _ h)
no_marks (m ∷ ms) (suc i) h = no_marks ms i (and_right (not (eqb m 1)) _ h)

zero_at : (marks : List ℕ) (i : ℕ) → get_or (set marks i 0) i 0 ≡ 0
zero_at [] i = refl
zero_at (m ∷ ms) zero = refl
zero_at (m ∷ ms) (suc i) = zero_at ms i

-- the mark of i is gone, and the others stand
pub cross_mark : (marks : List ℕ) (i j : ℕ) → marked (set marks i 0) j ≡ marked marks j && not (eqb i j)
cross_mark marks i j = pick (eqb i j) refl
  where
    pick : (b : Bool) → eqb i j ≡ b → marked (set marks i 0) j ≡ marked marks j && not b
    pick true h =
        rw (and-false (marked marks j))
        (subst (λ (k : ℕ). marked (set marks i 0) k ≡ false) (eqb-true i j h) (rw (zero_at marks i)))
    pick false h =
        ap (λ (m : ℕ). eqb m 1) (get_or-set_other marks i j 0 0 (λ (e : j ≡ i). eqb-false i j h (sym e)))
        ∙ sym (and-true (marked marks j))

-- ---- the number of marks

pub mark_count-cons : (m : ℕ) (ms : List ℕ) → mark_count (m ∷ ms) ≡ cond (eqb m 1) (suc (mark_count ms)) (mark_count ms)
mark_count-cons m ms = count_suc (marked (m ∷ ms)) (length ms) 0 ∙ rw (count_shift (marked (m ∷ ms)) (length ms) 0)

-- one mark fewer
pub mark_count-cross : (marks : List ℕ) (i : ℕ) → marked marks i ≡ true
    → mark_count marks ≡ suc (mark_count (set marks i 0))
mark_count-cross [] i h = absurd (true≢false (sym h))
mark_count-cross (m ∷ ms) zero h = mark_count-cons m ms ∙ rw h (ap suc (sym (mark_count-cons 0 ms)))
mark_count-cross (m ∷ ms) (suc i) h =
    mark_count-cons m ms ∙ pick (eqb m 1) (mark_count-cross ms i h) ∙ ap suc (sym (mark_count-cons m (set ms i 0)))
  where
    pick : (b : Bool) {k n : ℕ} → k ≡ suc n → cond b (suc k) k ≡ suc (cond b (suc n) n)
    pick true e = ap suc e
    pick false e = e

pub no_mark_count : (marks : List ℕ) → eqb 0 (mark_count marks) ≡ every (λ m. not (eqb m 1)) marks
unfolding every filter up_from
no_mark_count [] = refl
no_mark_count (m ∷ ms) = rw (mark_count-cons m ms) (pick (eqb m 1) (mark_count ms) (no_mark_count ms))
  where
    pick : (b : Bool) (k : ℕ) {t : Bool} → eqb 0 k ≡ t → eqb 0 (cond b (suc k) k) ≡ not b && t
    pick true k e = eqb-zero-suc k
    pick false k e = e

-- ---- question 7 by crossing out

regroup_out : (a b c d : Bool) → (a && not b) && (c && not d) ≡ (a && c) && not (b || d)
regroup_out true true c d = sym (and-false c)
regroup_out true false c d = sym (and_assoc true c (not d))
regroup_out false b c d = refl

every_cross : (marks : List ℕ) (i : ℕ) (es : List ℕ)
    → every (marked (set marks i 0)) es ≡ every (marked marks) es && not (member i es)
unfolding every any
every_cross marks i [] = refl
every_cross marks i (e ∷ es) =
    rw (cross_mark marks i e, every_cross marks i es)
    (regroup_out (marked marks e) (eqb i e) (every (marked marks) es) (member i es))

regroup_in : (a c d f : Bool) → a && c && (d && f) ≡ a && (c && d) && f
regroup_in a c d f = sym (and_assoc (a && c) d f) ∙ ap (λ (b : Bool). b && f) (and_assoc a c d)

-- question 7 is answered yes exactly when the entries cross out the marks
pub active-cross_out : (marks entries : List ℕ) → are_active marks entries ≡ cross_out entries marks
unfolding are_active cross_out every any distinct
active-cross_out marks [] = and-true _ ∙ and-true _ ∙ no_mark_count marks
active-cross_out marks (e ∷ es) =
    pick (marked marks e) refl ∙ ap (λ (b : Bool). marked marks e && b) (active-cross_out (set marks e 0) es)
  where
    pick : (b : Bool) → marked marks e ≡ b → are_active marks (e ∷ es) ≡ b && are_active (set marks e 0) es
    pick true h =
        rw (h, mark_count-cross marks e h, every_cross marks e es)
        (rw (eqb-suc-suc (length es) (mark_count (set marks e 0)))
        (regroup_in (eqb (length es) (mark_count (set marks e 0)))
        (every (marked marks) es) (not (member e es)) (distinct es)))
    pick false h = rw (h, and-false (eqb (suc (length es)) (mark_count marks)))

-- ---- a fold over the entries, in any order of them

-- What a fold has come to is fine for the marks that are not yet crossed out; a step at a marked node keeps it so, and
-- the steps at two marked nodes commute.
module _ {A : Type 0} (step : A → ℕ → A) (Fine : List ℕ → A → Type 0)
    (keeps : (marks : List ℕ) (a : A) (i : ℕ) → Fine marks a → marked marks i ≡ true → Fine (set marks i 0) (step a i))
    (commutes : (marks : List ℕ) (a : A) (i j : ℕ) → Fine marks a → marked marks i ≡ true → marked marks j ≡ true
    → i ≢ j → step (step a i) j ≡ step (step a j) i) where
  abbrev Pulled : List ℕ → List ℕ → A → ℕ → Type 0
  Pulled es marks a i =
      (rest : List ℕ) × (cross_out rest (set marks i 0) ≡ true) × (foldl step a es ≡ foldl step (step a i) rest)

  -- any marked node may be taken first
  pull : (es marks : List ℕ) (a : A) (i : ℕ) → Fine marks a → cross_out es marks ≡ true → marked marks i ≡ true
      → Pulled es marks a i
  unfolding cross_out
  pull [] marks a i f o m = absurd (true≢false (sym m ∙ no_marks marks i o))
  pull (e ∷ es) marks a i f o m = pick (eqb i e) refl (pull es (set marks e 0) (step a e) i (keeps marks a e f me) oe)
    where
      me : marked marks e ≡ true
      me = and_left (marked marks e) _ o

      oe : cross_out es (set marks e 0) ≡ true
      oe = and_right (marked marks e) _ o

      pick : (b : Bool) → eqb i e ≡ b → (marked (set marks e 0) i ≡ true → Pulled es (set marks e 0) (step a e) i)
          → Pulled (e ∷ es) marks a i
      pick true q later = let n : i ≡ e = eqb-true i e q in (es, rw n oe, rw n)
      pick false q later =
          let n : i ≢ e = eqb-false i e q in
          let still : marked (set marks i 0) e ≡ true = cross_mark marks i e ∙ rw (me, q) in
          let r = later (cross_mark marks e i ∙ rw (m, ne_eqb e i (λ x. n (sym x)))) in (
            e ∷ r.0,
            both still (rw (set_comm marks i e 0 0 n) r.1),
            r.2 ∙ ap (λ (b : A). foldl step b r.0) (sym (commutes marks a i e f m me n)),
          )

  pub any_order : (es fs marks : List ℕ) (a : A) → Fine marks a → cross_out es marks ≡ true → cross_out fs marks ≡ true
      → foldl step a es ≡ foldl step a fs
  unfolding cross_out
  any_order [] [] marks a f o p = refl
  any_order [] (x ∷ xs) marks a f o p = absurd (true≢false (sym (and_left (marked marks x) _ p) ∙ no_marks marks x o))
  any_order (e ∷ es) fs marks a f o p =
      let m : marked marks e ≡ true = and_left (marked marks e) _ o in
      let r = pull fs marks a e f p m in
      any_order es r.0 (set marks e 0) (step a e) (keeps marks a e f m) (and_right (marked marks e) _ o) r.1
      ∙ sym r.2

  -- and what it comes to is fine where no mark is left
  pub fine_at_end : (es marks : List ℕ) (a : A) → Fine marks a → cross_out es marks ≡ true
      → (left : List ℕ) × ((i : ℕ) → marked left i ≡ false) × Fine left (foldl step a es)
  unfolding cross_out
  fine_at_end [] marks a f o = (marks, λ i. no_marks marks i o, f)
  fine_at_end (e ∷ es) marks a f o =
      fine_at_end es (set marks e 0) (step a e) (keeps marks a e f (and_left (marked marks e) _ o))
      (and_right (marked marks e) _ o)
