-- Laws of `every`, `any` and `filter` over the numbers from a on: what holds of every number holds at each, and counts
-- of two stretches add up. A list of zeros reads 0 everywhere.
use mathlib.Core.Path.{◌≡◌, refl, sym, ap, ◌∙◌, subst}
use mathlib.Core.Bool.{Bool, true, false, cond, not, ◌&&◌, ◌||◌, true≢false, or-true}
use mathlib.Core.List.{List, [], ◌∷◌}
use mathlib.Core.Logic.{inl, inr, ◌↔◌}
use Prim.Native.Nat.{ℕ, zero, suc, ◌+◌, ◌-◌, ◌≤◌, ◌<◌}
use native.Mathlib.Nat.{le_refl, le_trans, le-suc, add-zero, zero-add, suc-add, add-suc}
use native.Mathlib.Omega.{arith}
use lib.Dec.{ltb}
use lib.ListN.{length, get_or, replicate}
use borrow.Author.Tests.{lt-ltb}
use Rattle.semantics.specs.Numbers.{up_from, below, every, any, filter}
use Rattle.semantics.proofs.Lists.Logic.{and_left, and_right, both, or_cases, true_or_false, cond-at, lt_or_le}

-- ---- every
pub every_at : (f : ℕ → Bool) (n a i : ℕ) → every f (up_from n a) ≡ true → a ≤ i → i < a + n → f i ≡ true
unfolding every up_from
every_at f zero a i h l u = absurd (omega arith)
every_at f (suc n) a i h l u =
    elim (lt_or_le a i) [
      | inl v ↦ every_at f n (suc a) i (and_right (f a) _ h) v (omega arith)
      | inr v ↦ let e : a ≡ i = omega arith in subst (λ (k : ℕ). f k ≡ true) e (and_left (f a) _ h)
    ]

pub every-all : (f : ℕ → Bool) (n a : ℕ) → ((i : ℕ) → a ≤ i → i < a + n → f i ≡ true) → every f (up_from n a) ≡ true
unfolding every up_from
every-all f zero a h = refl
every-all f (suc n) a h =
    both (h a (le_refl a) (omega arith)) (every-all f n (suc a) (λ i l u. h i (omega arith) (omega arith)))

-- of the numbers that pass g
pub every-filter : (f g : ℕ → Bool) (xs : List ℕ) → every f (filter g xs) ≡ every (λ x. not (g x) || f x) xs
unfolding every filter
every-filter f g [] = refl
every-filter f g (x ∷ xs) = pick (g x) (every-filter f g xs)
  where
    pick : (b : Bool) {t : Bool} → every f (filter g xs) ≡ t
        → every f (cond b (x ∷ filter g xs) (filter g xs)) ≡ (not b || f x) && t
    pick true e = ap (λ (t : Bool). f x && t) e
    pick false e = e

-- of the elements of a list, by their indices
pub every_elements : (f : ℕ → Bool) (d : ℕ) (xs : List ℕ)
    → every f xs ≡ true ↔ ((i : ℕ) → i < length xs → f (get_or xs i d) ≡ true)
unfolding every
every_elements f d [] = (λ h i l. absurd (omega arith), λ h. refl)
every_elements f d (x ∷ xs) =
    let rest = every_elements f d xs in
    (at rest, λ h. both (h 0 (omega arith)) (rest.1 (λ i l. h (suc i) (omega arith))))
  where
    at : every f xs ≡ true ↔ ((i : ℕ) → i < length xs → f (get_or xs i d) ≡ true)
        → f x && every f xs ≡ true → (i : ℕ) → i < suc (length xs) → f (get_or (x ∷ xs) i d) ≡ true
    at rest h zero l = and_left (f x) _ h
    at rest h (suc i) l = rest.0 (and_right (f x) _ h) i (omega arith)

-- of every number below n
pub every_below : (f : ℕ → Bool) (n : ℕ) → every f (below n) ≡ true → (i : ℕ) → i < n → f i ≡ true
every_below f n h i l = every_at f n 0 i h (omega arith) (omega arith)

pub all-below : (f : ℕ → Bool) (n : ℕ) → ((i : ℕ) → i < n → f i ≡ true) → every f (below n) ≡ true
all-below f n h = every-all f n 0 (λ i l u. h i (omega arith))

-- ---- any
pub any_at : (f : ℕ → Bool) (n a i : ℕ) → f i ≡ true → a ≤ i → i < a + n → any f (up_from n a) ≡ true
unfolding any up_from
any_at f zero a i h l u = absurd (omega arith)
any_at f (suc n) a i h l u =
    elim (lt_or_le a i) [
      | inl v ↦ rw (any_at f n (suc a) i h v (omega arith)) (or-true (f a))
      | inr v ↦ let e : i ≡ a = omega arith in rw (ap f (sym e) ∙ h)
    ]

pub any-find : (f : ℕ → Bool) (xs : List ℕ) → any f xs ≡ true → (i : ℕ) × (f i ≡ true)
unfolding any
any-find f [] h = absurd (true≢false (sym h))
any-find f (x ∷ xs) h = elim (or_cases (f x) _ h) [ inl e ↦ (x, e) | inr e ↦ any-find f xs e ]

-- of the numbers that pass g
pub any-filter : (f g : ℕ → Bool) (xs : List ℕ) → any f (filter g xs) ≡ any (λ x. g x && f x) xs
unfolding any filter
any-filter f g [] = refl
any-filter f g (x ∷ xs) = pick (g x) (any-filter f g xs)
  where
    pick : (b : Bool) {t : Bool} → any f (filter g xs) ≡ t
        → any f (cond b (x ∷ filter g xs) (filter g xs)) ≡ b && f x || t
    pick true e = ap (λ (t : Bool). f x || t) e
    pick false e = e

-- ---- how many of n numbers from a on pass a test
abbrev pub count : (ℕ → Bool) → ℕ → ℕ → ℕ
count f n a = length (filter f (up_from n a))

length-cond : (b : Bool) (x : ℕ) (l : List ℕ) → length (cond b (x ∷ l) l) ≡ cond b (suc (length l)) (length l)
length-cond true x l = refl
length-cond false x l = refl

cond-add : (b : Bool) (n m k : ℕ) → k ≡ n + m → cond b (suc k) k ≡ cond b (suc n) n + m
cond-add true n m k h = omega arith
cond-add false n m k h = h

pub length-filter : (f : ℕ → Bool) (x : ℕ) (xs : List ℕ)
    → length (filter f (x ∷ xs)) ≡ cond (f x) (suc (length (filter f xs))) (length (filter f xs))
unfolding filter
length-filter f x xs = length-cond (f x) x (filter f xs)

-- some number passes the test exactly when those that pass are not none
pub any-length : (f : ℕ → Bool) (xs : List ℕ) → any f xs ≡ ltb 0 (length (filter f xs))
unfolding any filter
any-length f [] = refl
any-length f (x ∷ xs) = rw (length-filter f x xs) (pick (f x) (length (filter f xs)) (any-length f xs))
  where
    pick : (b : Bool) (n : ℕ) {t : Bool} → t ≡ ltb 0 n → b || t ≡ ltb 0 (cond b (suc n) n)
    pick true n e = sym (lt-ltb 0 (suc n) (omega arith))
    pick false n e = e

pub count_suc : (f : ℕ → Bool) (n a : ℕ) → count f (suc n) a ≡ cond (f a) (suc (count f n (suc a))) (count f n (suc a))
unfolding up_from
count_suc f n a = length-filter f a (up_from n (suc a))

pub count_add : (f : ℕ → Bool) (n m a : ℕ) → count f (n + m) a ≡ count f n a + count f m (a + n)
unfolding filter up_from
count_add f zero m a = rw (zero-add m, add-zero a) (sym (zero-add _))
count_add f (suc n) m a =
    ap (λ (x : ℕ). count f x a) (suc-add n m) ∙ count_suc f (n + m) a
    ∙ cond-add (f a) (count f n (suc a)) (count f m (a + suc n)) (count f (n + m) (suc a))
    (count_add f n m (suc a) ∙ ap (λ (x : ℕ). count f n (suc a) + count f m x) (suc-add a n ∙ sym (add-suc a n)))
    ∙ ap (λ (x : ℕ). x + count f m (a + suc n)) (sym (count_suc f n a))

pub count_none : (f : ℕ → Bool) (n a : ℕ) → ((j : ℕ) → a ≤ j → j < a + n → f j ≡ false) → count f n a ≡ 0
unfolding filter up_from
count_none f zero a h = refl
count_none f (suc n) a h =
    count_suc f n a
    ∙ rw (h a (le_refl a) (omega arith)) (count_none f n (suc a) (λ j l u. h j (omega arith) (omega arith)))

-- counting from one further on counts the test moved by one
pub count_shift : (f : ℕ → Bool) (n a : ℕ) → count f n (suc a) ≡ count (λ i. f (suc i)) n a
unfolding filter up_from
count_shift f zero a = refl
count_shift f (suc n) a = count_suc f n (suc a) ∙ rw (count_shift f n (suc a)) (sym (count_suc (λ i. f (suc i)) n a))

at_least : (b : Bool) {m n : ℕ} → m ≤ n → m ≤ cond b (suc n) n
at_least true h = le_trans h (le-suc _)
at_least false h = h

-- a number that passes is counted, and two that pass are counted twice
pub count_one : (f : ℕ → Bool) (n a i : ℕ) → f i ≡ true → a ≤ i → i < a + n → 1 ≤ count f n a
unfolding filter up_from
count_one f zero a i h l u = absurd (omega arith)
count_one f (suc n) a i h l u =
    elim (lt_or_le a i) [
      | inl v ↦ rw (count_suc f n a) (at_least (f a) (count_one f n (suc a) i h v (omega arith)))
      | inr v ↦ let e : i ≡ a = omega arith in rw (count_suc f n a, sym (ap f e) ∙ h) (omega arith)
    ]

pub count_two : (f : ℕ → Bool) (n a i j : ℕ) → f i ≡ true → f j ≡ true → a ≤ i → i < j → j < a + n → 2 ≤ count f n a
unfolding filter up_from
count_two f zero a i j hi hj l m u = absurd (omega arith)
count_two f (suc n) a i j hi hj l m u =
    elim (lt_or_le a i) [
      | inl v ↦ rw (count_suc f n a) (at_least (f a) (count_two f n (suc a) i j hi hj v m (omega arith)))
      | inr v ↦
          let e : i ≡ a = omega arith in
          let o = count_one f n (suc a) j hj (omega arith) (omega arith) in
          rw (count_suc f n a, sym (ap f e) ∙ hi) (omega arith)
    ]

-- where some are counted, one passes, and where two are, two pass
pub count_some : (f : ℕ → Bool) (n a : ℕ) → 1 ≤ count f n a → (i : ℕ) × (a ≤ i) × (f i ≡ true)
unfolding filter up_from
count_some f zero a h = absurd (omega arith)
count_some f (suc n) a h =
    elim (true_or_false (f a)) [
      | inl e ↦ (a, le_refl a, e)
      | inr e ↦ let (i, l, p) = count_some f n (suc a) (rw (count_suc f n a, e) at h) in (i, omega arith, p)
    ]

pub count_pair : (f : ℕ → Bool) (n a : ℕ) → 2 ≤ count f n a
    → (i : ℕ) × (j : ℕ) × (i < j) × (f i ≡ true) × (f j ≡ true)
unfolding filter up_from
count_pair f zero a h = absurd (omega arith)
count_pair f (suc n) a h =
    elim (true_or_false (f a)) [
      | inl e ↦ let (j, l, p) = count_some f n (suc a) (omega (arith, rw (count_suc f n a, e) at h)) in (a, j, l, e, p)
      | inr e ↦ count_pair f n (suc a) (rw (count_suc f n a, e) at h)
    ]

-- no more pass than there are
pub count_most : (f : ℕ → Bool) (n a : ℕ) → count f n a ≤ n
unfolding filter up_from
count_most f zero a = le_refl 0
count_most f (suc n) a =
    let rest = count_most f n (suc a) in
    rw (count_suc f n a) (cond-at (λ (k : ℕ). k ≤ suc n) (f a) (omega arith) (omega arith))

-- those that pass a second test, of those that pass a first
pub filter-filter : (f g : ℕ → Bool) (xs : List ℕ) → filter g (filter f xs) ≡ filter (λ x. f x && g x) xs
unfolding filter
filter-filter f g [] = refl
filter-filter f g (x ∷ xs) = pick (f x) (filter f xs) (filter-filter f g xs)
  where
    pick : (b : Bool) (ys : List ℕ) {zs : List ℕ} → filter g ys ≡ zs
        → filter g (cond b (x ∷ ys) ys) ≡ cond (b && g x) (x ∷ zs) zs
    pick true ys e = rw e
    pick false ys e = e

-- the numbers from lo up to hi are those up to mid and those from mid on
pub count_split : (f : ℕ → Bool) (lo mid hi : ℕ) → lo ≤ mid → mid ≤ hi
    → count f (hi - lo) lo ≡ count f (mid - lo) lo + count f (hi - mid) mid
count_split f lo mid hi l u =
    let n : hi - lo ≡ (mid - lo) + (hi - mid) = omega arith in
    let m : lo + (mid - lo) ≡ mid = omega arith in
    ap (λ (x : ℕ). count f x lo) n ∙ count_add f (mid - lo) (hi - mid) lo
    ∙ ap (λ (x : ℕ). count f (mid - lo) lo + count f (hi - mid) x) m

-- a test that holds only from lo up to hi need only be counted there
pub count_within : (f : ℕ → Bool) (n lo hi : ℕ) → lo ≤ hi → hi ≤ n → ((j : ℕ) → j < lo → f j ≡ false)
    → ((j : ℕ) → hi ≤ j → f j ≡ false) → count f n 0 ≡ count f (hi - lo) lo
count_within f n lo hi l u before after =
    let whole : n ≡ n - 0 = omega arith in
    let none_before = count_none f (lo - 0) 0 (λ j v w. before j (omega arith)) in
    let none_after = count_none f (n - hi) hi (λ j v w. after j v) in
    let first = count_split f 0 lo n (omega arith) (omega arith) in
    let second = count_split f lo hi n l u in
    ap (λ (x : ℕ). count f x 0) whole ∙ omega arith

-- ---- lists of zeros
pub zeros : (size i : ℕ) → ◌≡◌ {A = ℕ} (get_or (replicate size 0) i 0) 0
zeros zero i = refl
zeros (suc size) zero = refl
zeros (suc size) (suc i) = zeros size i
