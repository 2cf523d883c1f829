-- Laws of the words that are taken out of a file and put into one: the crate byteorder's words are those of the rules.
use mathlib.Core.Path.{◌≡◌, refl, sym, ap, ◌∙◌, subst}
use mathlib.Core.List.{List, [], ◌∷◌, ◌++◌}
use Prim.Native.Nat.{ℕ, suc, ◌+◌, ◌*◌, ◌-◌, ◌/◌, ◌%◌, ◌≤◌, ◌<◌}
use native.Mathlib.Nat.{zero-add}
use native.Mathlib.Numerals.{add-one}
use native.Mathlib.Omega.{arith}
use lib.ListN.{length, get_or, take, drop, set, length-drop, length-append}
use lib.Seq.{paste, paste-suc, sets, get_or-drop, drop-drop, drop-append-add, take_at, take_all}
use Rattle.std.specs.List.{flat_map}
use Rattle.std.proofs.lemmas.List.{ext_get_or, get_or-take, length-take-le}
use Rattle.byteorder.specs.Endian.{IsRead, little_bytes, little_number}
use Rattle.semantics.specs.Bytes.{bytes_of, words_of}
use Rattle.semantics.specs.FileCalls.{filled}
use Rattle.semantics.proofs.Lists.WordLaws.{Words}
use Rattle.semantics.proofs.Files.BytesLaws.{length-bytes, bytes-append, length-words, low_byte, high_byte, word_at}

-- ---- taking

-- byte j of word k of those from `from` on
byte_of : (file : List ℕ) (from count k j place : ℕ) → k < count → j < 2 → place ≡ 2 * (from + k) + j
    → get_or (drop (2 * k) (take (2 * (from + count) - 2 * from) (drop (2 * from) file))) j 0 ≡ get_or file place 0
byte_of file from count k j place within small is =
    let size = 2 * (from + count) - 2 * from in
    let e : 2 * from + (2 * k + j) ≡ place = omega arith in
    get_or-drop (2 * k) (take size (drop (2 * from) file)) j 0
    ∙ get_or-take size (drop (2 * from) file) (2 * k + j) 0 (omega arith)
    ∙ get_or-drop (2 * from) file (2 * k + j) 0 ∙ ap (λ (i : ℕ). get_or file i 0) e

-- the words that are read from their bytes, before the rest of a list
pub taken : (file : List ℕ) (from count : ℕ) (words list : List ℕ) → 2 * (from + count) ≤ length file
    → length words ≡ count → IsRead little_number 2 (take (2 * (from + count) - 2 * from) (drop (2 * from) file)) words
    → words ++ drop count list ≡ paste list 0 (drop from (words_of file)) count
taken file from count words list room size read =
    let rest = drop from (words_of file) in
    let n = length-words file in
    let l = length-drop from (words_of file) in
    let same : words ≡ take count rest =
    ext_get_or 0 words (take count rest) (size ∙ sym (length-take-le count rest (omega arith)))
    (λ k within.
    let low = byte_of file from count k 0 (2 * (from + k)) (omega arith) (omega arith) (omega arith) in
    let high = byte_of file from count k 1 (2 * (from + k) + 1) (omega arith) (omega arith) refl in
    let word = word_at file (from + k) (omega arith) in
    let here = get_or-take count rest k 0 (omega arith) ∙ get_or-drop from (words_of file) k 0 in
    let got = read k within in
    omega (arith, low, high, word, here, got)) in
    λ i. same i ++ drop (sym (zero-add count) i) list

-- word k, read from the bytes from its place on
pub read_at : (file : List ℕ) (k : ℕ) → 2 * k + 1 < length file
    → little_number 2 (take (length file - 2 * k) (drop (2 * k) file)) ≡ get_or (words_of file) k 0
read_at file k within =
    let rest = drop (2 * k) file in
    let size = length file - 2 * k in
    let low : get_or (take size rest) 0 0 ≡ get_or file (2 * k) 0 =
    get_or-take size rest 0 0 (omega arith) ∙ get_or-drop (2 * k) file 0 0
    ∙ ap (λ (i : ℕ). get_or file i 0) (omega arith) in
    let high = get_or-take size rest 1 0 (omega arith) ∙ get_or-drop (2 * k) file 1 0 in
    let word = word_at file k within in
    omega (arith, low, high, word)

-- one word more of those from `from` on
pub take-one : (file : List ℕ) (from i : ℕ) (list list₀ : List ℕ) (word : ℕ)
    → from + i < length file / 2 → i < length list₀ → list ≡ paste list₀ 0 (drop from (words_of file)) i
    → word ≡ get_or (words_of file) (from + i) 0
    → set list i word ≡ paste list₀ 0 (drop from (words_of file)) (i + 1)
take-one file from i list list₀ word within room copied right =
    let words = drop from (words_of file) in
    let l = length-drop from (words_of file) in
    let n = length-words file in
    let turn = paste-suc list₀ 0 words i 0 (omega arith) (omega arith) in
    rw (add-one i, copied, right, ← get_or-drop from (words_of file) i 0)
    (subst (λ (k : ℕ). set (paste list₀ 0 words i) k (get_or words i 0) ≡ paste list₀ 0 words (suc i))
    (zero-add i) turn)

-- words at the start of a buffer
pub pasted : (words list : List ℕ) (n : ℕ) → n ≤ length words → paste list 0 words n ≡ filled (take n words) list
pasted words list n l = ap (λ (k : ℕ). take n words ++ drop k list) (zero-add n ∙ sym (length-take-le n words l))

-- ---- putting

-- the bytes that are written of words
pub put : (words : List ℕ) → Words words → flat_map (little_bytes 2) words ≡ bytes_of words
unfolding bytes_of
put [] small = refl
put (word ∷ words) small =
    let fits = small 0 in
    let high : word / 256 % 256 ≡ word / 256 = omega arith in
    λ i. word % 256 ∷ high i ∷ put words (λ k. small (suc k)) i

-- one word more of those that are put from byte `at` on
pub put_one : (words : List ℕ) (at i : ℕ) (file file₀ : List ℕ) (word : ℕ)
    → i < length words → at + 2 * length words ≤ length file₀ → file ≡ paste file₀ at (bytes_of words) (2 * i)
    → word ≡ get_or words i 0
    → sets file (at + 2 * i) (bytes_of (word ∷ [])) ≡ paste file₀ at (bytes_of words) (2 * (i + 1))
unfolding bytes_of
put_one words at i file file₀ word within room copied right =
    let n = length-bytes words in
    let low = paste-suc file₀ at (bytes_of words) (2 * i) 0 (omega arith) (omega arith) in
    let high = paste-suc file₀ at (bytes_of words) (suc (2 * i)) 0 (omega arith) (omega arith) in
    let e : at + suc (2 * i) ≡ suc (at + 2 * i) = omega arith in
    let f : suc (suc (2 * i)) ≡ 2 * (i + 1) = omega arith in
    rw (copied, right, ← low_byte words i within, ← high_byte words i within, low, ← f, ← e) high

-- words behind those that are put already
pub put_next : (done words : List ℕ) (at : ℕ) (file file₀ : List ℕ) → at ≡ 2 * length done
    → file ≡ filled (bytes_of done) file₀
    → paste file at (bytes_of words) (2 * length words) ≡ filled (bytes_of (done ++ words)) file₀
put_next done words at file file₀ e copied =
    let front = bytes_of done in
    let more = bytes_of words in
    let f : length front ≡ at = length-bytes done ∙ sym e in
    let m : length more ≡ 2 * length words = length-bytes words in
    let b : bytes_of (done ++ words) ≡ front ++ more = bytes-append done words in
    let n : length (front ++ more) ≡ length front + 2 * length words =
    length-append front more ∙ ap (λ (k : ℕ). length front + k) m in
    let kept : take at file ≡ front = ap (take at) copied ∙ take_at front (drop (length front) file₀) at f in
    let rest : drop (at + 2 * length words) file ≡ drop (length (bytes_of (done ++ words))) file₀ =
    rw (copied, ← f, b, n) (drop-append-add front (drop (length front) file₀) (2 * length words)
    ∙ drop-drop (2 * length words) (length front) file₀) in
    rw (rest, b)
    (λ i. kept i ++ take_all (2 * length words) more (omega arith) i ++ drop (length (front ++ more)) file₀)
