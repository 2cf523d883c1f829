-- Tests, searches and sums over numbers, for words of the rules such as every, any and each once.
use Rattle.std.specs.Prelude.{Bool, true, false, cond, not, ◌&&◌, ◌||◌, List, [], ◌∷◌, ℕ, zero, suc, ◌+◌, eqb}
use Rattle.std.proofs.Math.Option.{Option, none, some}

-- n numbers from i on: i, i + 1, ..
unfoldable pub up_from : ℕ → ℕ → List ℕ
up_from zero i = []
up_from (suc n) i = i ∷ up_from n (suc i)

-- the numbers below n, as the indices of a list of length n
abbrev pub below : ℕ → List ℕ
below n = up_from n 0

-- the test holds of every number of the list
unfoldable pub every : (ℕ → Bool) → List ℕ → Bool
every f [] = true
every f (x ∷ xs) = f x && every f xs

-- the test holds of some number of the list
unfoldable pub any : (ℕ → Bool) → List ℕ → Bool
any f [] = false
any f (x ∷ xs) = f x || any f xs

-- the numbers of which the test holds, in their order
unfoldable pub filter : (ℕ → Bool) → List ℕ → List ℕ
filter f [] = []
filter f (x ∷ xs) = let rest = filter f xs in cond (f x) (x ∷ rest) rest

-- the first number of which the test holds
unfoldable pub find : (ℕ → Bool) → List ℕ → Option ℕ
find f [] = none
find f (x ∷ xs) = let later = find f xs in cond (f x) (some x) later

abbrev pub member : ℕ → List ℕ → Bool
member x xs = any (eqb x) xs

-- f 0, f 1, .. added up for the numbers below n
unfoldable pub total : (ℕ → ℕ) → ℕ → ℕ
total f zero = 0
total f (suc n) = f 0 + total (λ k. f (suc k)) n

-- no number stands twice in the list
unfoldable pub distinct : List ℕ → Bool
distinct [] = true
distinct (x ∷ xs) = not (member x xs) && distinct xs
