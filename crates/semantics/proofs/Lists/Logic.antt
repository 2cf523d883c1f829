-- Booleans and order: what the proofs say of tests, beside `mathlib.Core.Bool` and `borrow.Author.Tests`.
use mathlib.Core.Path.{◌≡◌, refl, sym, ◌∙◌}
use mathlib.Core.Bool.{Bool, true, false, cond, not, ◌&&◌, ◌||◌, true≢false}
use mathlib.Core.Logic.{◌⊎◌, inl, inr, ◌↔◌}
use mathlib.Core.List.{List, [], ◌∷◌, foldl}
use Prim.Native.Nat.{ℕ, ◌≤◌, ◌<◌}
use lib.Dec.{ltb}
use borrow.Author.Tests.{ltb-true, ltb-false}

pub and_left : (a b : Bool) → a && b ≡ true → a ≡ true
and_left true b h = refl
and_left false b h = absurd (true≢false (sym h))

pub and_right : (a b : Bool) → a && b ≡ true → b ≡ true
and_right true b h = h
and_right false b h = absurd (true≢false (sym h))

pub both : {a b : Bool} → a ≡ true → b ≡ true → a && b ≡ true
both p q = λ i. p i && q i

-- the parts of `a && b && c && ..`, for a rule that names many
abbrev pub AllTrue : List Bool → Type 0
AllTrue [] = Unit {0}
AllTrue (b ∷ bs) = (b ≡ true) × AllTrue bs

pub conjuncts : (a : Bool) (bs : List Bool) → foldl ◌&&◌ a bs ≡ true → AllTrue (a ∷ bs)
conjuncts a [] h = (h, tt)
conjuncts a (b ∷ bs) h =
    let r = conjuncts (a && b) bs h in
    (and_left a b r.0, (and_right a b r.0, r.1))

pub or_left : (a b : Bool) → a || b ≡ false → a ≡ false
or_left true b h = h
or_left false b h = refl

pub or_right : (a b : Bool) → a || b ≡ false → b ≡ false
or_right true b h = absurd (true≢false h)
or_right false b h = h

pub or_cases : (a b : Bool) → a || b ≡ true → (a ≡ true) ⊎ (b ≡ true)
or_cases true b h = inl refl
or_cases false b h = inr h

-- of two that do not both hold, one holds
pub other_right : (a b : Bool) → a && b ≡ false → a ≡ true → b ≡ false
other_right true b h e = h
other_right false b h e = absurd (true≢false (sym e))

pub other_left : (a b : Bool) → a && b ≡ false → b ≡ true → a ≡ false
other_left true b h e = absurd (true≢false (sym e ∙ h))
other_left false b h e = refl

-- a test that fails or passes on a condition
pub implies : (a b : Bool) → not a || b ≡ true ↔ (a ≡ true → b ≡ true)
implies true b = (λ h e. h, λ f. f refl)
implies false b = (λ h e. absurd (true≢false (sym e)), λ f. refl)

pub refuted : (b : Bool) → (b ≡ true → ⊥) → b ≡ false
refuted true f = absurd (f refl)
refuted false f = refl

-- two tests that imply one another are equal
pub bool_eq : (a b : Bool) → (a ≡ true → b ≡ true) → (b ≡ true → a ≡ true) → a ≡ b
bool_eq true b f g = sym (f refl)
bool_eq false true f g = g refl
bool_eq false false f g = refl

-- a Bool is one or the other, with the equation kept
pub true_or_false : (b : Bool) → (b ≡ true) ⊎ (b ≡ false)
true_or_false true = inl refl
true_or_false false = inr refl

pub cond-at : {X : Type 0} (F : X → Type 0) (b : Bool) {x y : X} → F x → F y → F (cond b x y)
cond-at F true p q = p
cond-at F false p q = q

-- what is chosen where the test holds may be changed for what equals it there
pub cond-when : {X : Type 0} (b : Bool) {x y : X} (z : X) → (b ≡ true → x ≡ y) → cond b x z ≡ cond b y z
cond-when true z h = h refl
cond-when false z h = refl

pub lt_or_le : (a b : ℕ) → (a < b) ⊎ (b ≤ a)
lt_or_le a b = pick (ltb a b) refl
  where
    pick : (t : Bool) → ltb a b ≡ t → (a < b) ⊎ (b ≤ a)
    pick true e = inl (ltb-true a b e)
    pick false e = inr (ltb-false a b e)
