-- Laws of `bytes_of` and `words_of`: their lengths and elements, and that each takes back the other.
use mathlib.Core.Path.{◌≡◌, refl, ap}
use mathlib.Core.Bool.{true}
use mathlib.Core.List.{List, [], ◌∷◌, ◌++◌}
use Prim.Native.Nat.{ℕ, zero, suc, ◌+◌, ◌*◌, ◌/◌, ◌%◌, ◌<◌}
use native.Mathlib.Omega.{arith}
use lib.Dec.{ltb}
use lib.Pow.{are_bytes}
use lib.ListN.{length, get_or}
use borrow.Author.Tests.{ltb-true}
use Rattle.semantics.specs.Bytes.{bytes_of, words_of}
use Rattle.semantics.proofs.Lists.Logic.{and_left, and_right}

-- ---- words to bytes

pub length-bytes : (words : List ℕ) → length (bytes_of words) ≡ 2 * length words
unfolding bytes_of
length-bytes [] = refl
length-bytes (word ∷ words) = let e = length-bytes words in omega arith

pub bytes-append : (xs ys : List ℕ) → bytes_of (xs ++ ys) ≡ bytes_of xs ++ bytes_of ys
unfolding bytes_of
bytes-append [] ys = refl
bytes-append (x ∷ xs) ys = ap (λ (r : List ℕ). x % 256 ∷ x / 256 ∷ r) (bytes-append xs ys)

pub low_byte : (words : List ℕ) (k : ℕ) → k < length words → get_or (bytes_of words) (2 * k) 0 ≡ get_or words k 0 % 256
unfolding bytes_of
low_byte [] k l = absurd (omega arith)
low_byte (word ∷ words) zero l = refl
low_byte (word ∷ words) (suc k) l =
    let e : 2 * suc k ≡ suc (suc (2 * k)) = omega arith in rw e (low_byte words k (omega arith))

pub high_byte : (words : List ℕ) (k : ℕ) → k < length words
    → get_or (bytes_of words) (suc (2 * k)) 0 ≡ get_or words k 0 / 256
unfolding bytes_of
high_byte [] k l = absurd (omega arith)
high_byte (word ∷ words) zero l = refl
high_byte (word ∷ words) (suc k) l =
    let e : 2 * suc k ≡ suc (suc (2 * k)) = omega arith in rw e (high_byte words k (omega arith))

pub words_bytes : (words : List ℕ) → words_of (bytes_of words) ≡ words
unfolding bytes_of words_of
words_bytes [] = refl
words_bytes (word ∷ words) =
    let e : word % 256 + 256 * (word / 256) ≡ word = omega arith in λ i. e i ∷ words_bytes words i

-- ---- bytes to words

pub length-words : (bytes : List ℕ) → length (words_of bytes) ≡ length bytes / 2
unfolding words_of
length-words [] = refl
length-words (byte ∷ []) = refl
length-words (low ∷ high ∷ bytes) = let e = length-words bytes in omega arith

pub word_at : (bytes : List ℕ) (k : ℕ) → 2 * k + 1 < length bytes
    → get_or (words_of bytes) k 0 ≡ get_or bytes (2 * k) 0 + 256 * get_or bytes (2 * k + 1) 0
unfolding words_of
word_at [] k l = absurd (omega arith)
word_at (byte ∷ []) k l = absurd (omega arith)
word_at (low ∷ high ∷ bytes) zero l = refl
word_at (low ∷ high ∷ bytes) (suc k) l =
    let e : 2 * suc k ≡ suc (suc (2 * k)) = omega arith in
    let f : 2 * suc k + 1 ≡ suc (suc (2 * k + 1)) = omega arith in
    rw (f, e) (word_at bytes k (omega arith))

pub bytes_words : (bytes : List ℕ) → are_bytes bytes ≡ true → length bytes % 2 ≡ 0 → bytes_of (words_of bytes) ≡ bytes
unfolding bytes_of words_of
bytes_words [] b l = refl
bytes_words (byte ∷ []) b l = absurd (omega arith)
bytes_words (low ∷ high ∷ bytes) b l =
    let small : low < 256 = ltb-true _ _ (and_left _ _ b) in
    let rest : are_bytes bytes ≡ true = and_right (ltb high 256) _ (and_right (ltb low 256) _ b) in
    let e : (low + 256 * high) % 256 ≡ low = omega arith in
    let f : (low + 256 * high) / 256 ≡ high = omega arith in
    λ i. e i ∷ f i ∷ bytes_words bytes rest (omega arith) i
