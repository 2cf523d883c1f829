-- Question 7 as the code asks it: each entry is crossed out of the marks, so that a second entry of one node finds no
-- mark; and what takes it back.
use Rattle.std.specs.Prelude.{◌≡◌, cond, ℕ, suc, ◌+◌, ◌≤◌, length, set, take, drop}
use mathlib.Core.List.{List, [], ◌∷◌, foldl}
use Rattle.semantics.specs.State.{marked}

-- The number of entries up to the first that has no mark, or none any more.
unfoldable pub crossable : List ℕ → List ℕ → ℕ
crossable marks [] = 0
crossable marks (e ∷ es) = let more = suc (crossable (set marks e 0) es) in cond (marked marks e) more 0

-- The same word at every entry.
abbrev pub set_all : ℕ → List ℕ → List ℕ → List ℕ
set_all word marks entries = foldl (λ (m : List ℕ) (e : ℕ). set m e word) marks entries

-- The marks before the first r entries were crossed out of them.
abbrev pub uncrossed : List ℕ → ℕ → List ℕ → List ℕ
uncrossed entries r marks = set_all 1 marks (take r entries)

-- The first r entries are crossed out, and could be.
pub record CrossedOut (entries marks₀ : List ℕ) (r : ℕ) (marks : List ℕ) : Type 0 where
  pub within : r ≤ length entries
  pub same_length : length marks ≡ length marks₀
  pub right : marks ≡ set_all 0 marks₀ (take r entries)
  pub rest : crossable marks₀ entries ≡ r + crossable marks (drop r entries)
