-- The word that decimal digits say.
use Rattle.std.specs.Prelude.{ℕ, ◌+◌, ◌-◌, ◌*◌, Bool, true, false, ◌&&◌, List, [], ◌∷◌, leb, Some, None}
use Rattle.std.specs.declared.option.Option.{Option}

-- 48 to 57 are the codes of the digits 0 to 9
abbrev pub is_digit : ℕ → Bool
is_digit byte = leb 48 byte && leb byte 57

unfoldable pub are_digits : List ℕ → Bool
are_digits [] = true
are_digits (byte ∷ rest) = is_digit byte && are_digits rest

-- the number that digits say after those that say the number before
unfoldable pub number_after : ℕ → List ℕ → ℕ
number_after before [] = before
number_after before (byte ∷ rest) = number_after (10 * before + (byte - 48)) rest

abbrev pub word_if : Bool → ℕ → Option ℕ
word_if true number = Some number
word_if false number = None

-- digits, and with those before them a number up to 65,535
abbrev pub word_after : ℕ → List ℕ → Option ℕ
word_after before bytes = word_if (are_digits bytes && leb (number_after before bytes) 65535) (number_after before bytes)

-- no digit says no word
unfoldable pub word_of : List ℕ → Option ℕ
word_of [] = None
word_of (byte ∷ rest) = word_after 0 (byte ∷ rest)
