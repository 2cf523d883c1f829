-- The slots of what is claimed alike after some entries: each has the rank of the one entry that wants it. An entry that
-- wants a free slot keeps it so, and one that wants a claimed slot shows that two entries want the same.
use mathlib.Core.Path.{◌≡◌, refl, sym, ap, ◌∙◌, subst}
use mathlib.Core.Bool.{Bool, true, false, cond}
use mathlib.Core.List.{List, [], ◌∷◌, ◌++◌, append-nil}
use mathlib.Core.Logic.{◌≢◌}
use Prim.Native.Nat.{ℕ, suc, ◌+◌, ◌≤◌, ◌<◌}
use native.Mathlib.Numerals.{add-one}
use native.Mathlib.Omega.{arith}
use lib.ListN.{length, get_or, take, drop, length-append}
use lib.Seq.{take_all, take-suc, split_at}
use Rattle.semantics.specs.Numbers.{filter}
use Rattle.semantics.proofs.Lists.NumberLaws.{length-filter}
use Rattle.player.specs.declared.claims.Slots.{Slots}
use Rattle.player.specs.Claims.{rank_of, rank_in, is_free, Claimed, wants, Claims}

-- ---- lists

filter-append : (f : ℕ → Bool) (xs ys : List ℕ) → filter f (xs ++ ys) ≡ filter f xs ++ filter f ys
unfolding filter
filter-append f [] ys = refl
filter-append f (x ∷ xs) ys = grind (arith, filter-append f xs ys)

filter-last : (f : ℕ → Bool) (xs : List ℕ) (x : ℕ) → filter f (xs ++ x ∷ []) ≡ filter f xs ++ cond (f x) (x ∷ []) []
unfolding filter
filter-last f xs x = filter-append f xs (x ∷ [])

no_rank : (xs : List ℕ) → rank_of xs ≡ 0 → xs ≡ []
no_rank [] e = refl
no_rank (x ∷ xs) e = absurd (omega arith)

some_rank : (xs : List ℕ) → rank_of xs ≢ 0 → 1 ≤ length xs
some_rank [] h = absurd (h refl)
some_rank (x ∷ xs) h = omega arith

-- ---- claims

module _ (uses : ℕ → Bool) (key : ℕ → ℕ) (stamp : ℕ) where
  abbrev wanting : ℕ → List ℕ → List ℕ
  wanting slot = filter (wants uses key slot)

  pub claims_none : (s : Slots) → ((slot : ℕ) → slot < 256 → rank_in s stamp slot ≡ 0)
      → Claims uses key [] s stamp
  unfolding filter
  claims_none s h slot = record { rank = h slot; single = omega arith }

  -- an entry that wants a free slot, or none
  claims_last : (entries : List ℕ) (before after : Slots) (e : ℕ) → Claims uses key entries before stamp
      → (uses e ≡ true → key e < 256) → is_free uses key before stamp e ≡ true
      → Claimed uses key before after stamp e → Claims uses key (entries ++ e ∷ []) after stamp
  claims_last entries before after e h inside free made slot =
      let old = wanting slot entries in
      let last = filter-last (wants uses key slot) entries e in
      record {
        rank = λ l. grind (arith, append-nil, no_rank old, (h slot).rank, made slot, last);
        single = grind (arith, append-nil, length-append, no_rank old, (h slot).rank, (h slot).single, last);
      }

  -- an entry that wants a claimed slot is the second that wants it
  claims_clash : (entries : List ℕ) (s : Slots) (e : ℕ) (rest : List ℕ) → Claims uses key entries s stamp
      → (uses e ≡ true → key e < 256) → is_free uses key s stamp e ≡ false
      → (uses e ≡ true) × (2 ≤ length (wanting (key e) (entries ++ e ∷ rest)))
  claims_clash entries s e rest h inside taken =
      let f = wants uses key (key e) in
      let all = filter-append f entries (e ∷ rest) in
      let more = length-filter f e rest in
      (grind arith, grind (arith, some_rank (filter f entries), (h (key e)).rank, length-append, all, more))

  -- ---- by the number of entries asked so far

  module _ (entries : List ℕ) (k : ℕ) (l : k < length entries) where
    abbrev entry : ℕ
    entry = get_or entries k 0

    pub claims_more : (before after : Slots) → Claims uses key (take k entries) before stamp
        → (uses entry ≡ true → key entry < 256) → is_free uses key before stamp entry ≡ true
        → Claimed uses key before after stamp entry → Claims uses key (take (k + 1) entries) after stamp
    claims_more before after h inside free made =
        let taken : take (k + 1) entries ≡ take k entries ++ entry ∷ [] =
        ap (λ (n : ℕ). take n entries) (add-one k) ∙ take-suc entries k 0 l in
        rw taken (claims_last (take k entries) before after entry h inside free made)

    pub claims_refused : (s : Slots) → Claims uses key (take k entries) s stamp
        → (uses entry ≡ true → key entry < 256) → is_free uses key s stamp entry ≡ false
        → (uses entry ≡ true) × (2 ≤ length (wanting (key entry) entries))
    claims_refused s h inside taken =
        let (used, two) = claims_clash (take k entries) s entry (drop (suc k) entries) h inside taken in
        (used, subst (λ (xs : List ℕ). 2 ≤ length (wanting (key entry) xs)) (sym (split_at entries k 0 l)) two)

  pub claims-all : (entries : List ℕ) (s : Slots) (k : ℕ) → length entries ≤ k
      → Claims uses key (take k entries) s stamp → Claims uses key entries s stamp
  claims-all entries s k l h =
      subst (λ (xs : List ℕ). Claims uses key xs s stamp) (take_all k entries l) h
