-- Variables of a width, from request 1: what a variable keeps of a value, which widths a program may have, and which
-- values a state.
use Rattle.std.specs.Prelude.{Bool, ◌&&◌, List, ℕ, ◌%◌, ◌^◌, eqb, ltb, leb, length, get_or}
use Rattle.semantics.specs.Numbers.{below, every}
use Rattle.semantics.specs.Program.{Program}

-- The width of variable v, a number of bits.
abbrev pub width_at : List ℕ → ℕ → ℕ
width_at widths v = get_or widths v 0

-- What variable v keeps of a value that is stored to it: as many low bits as v is wide.
abbrev pub truncated : List ℕ → ℕ → ℕ → ℕ
truncated widths v value = value % 2 ^ width_at widths v

-- ---- question 11: there is a width for each variable, and each is 1 to 16
unfoldable pub width_ok : ℕ → Bool
width_ok width = leb 1 width && leb width 16

unfoldable pub widths_ok : Program → Bool
widths_ok P =
    eqb (length P.widths) P.variables && every (λ v. width_ok (width_at P.widths v)) (below P.variables)

-- ---- the values' part of question 6: each value has no more bits than its variable
unfoldable pub values_in_range : List ℕ → List ℕ → Bool
values_in_range widths values = every (λ v. ltb (get_or values v 0) (2 ^ width_at widths v)) (below (length values))
