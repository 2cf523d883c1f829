-- Words in the bytes of a file, from request 3: a word is two bytes, the low one first.
use Rattle.std.specs.Prelude.{List, [], ◌∷◌, ℕ, ◌+◌, ◌*◌, ◌/◌, ◌%◌}

-- the bytes of words
unfoldable pub bytes_of : List ℕ → List ℕ
bytes_of [] = []
bytes_of (word ∷ words) = word % 256 ∷ word / 256 ∷ bytes_of words

-- the words of bytes; a byte that is left over at the end is in no word
unfoldable pub words_of : List ℕ → List ℕ
words_of [] = []
words_of (byte ∷ []) = []
words_of (low ∷ high ∷ bytes) = (low + 256 * high) ∷ words_of bytes
