-- How the word that digits say is found byte by byte: what each byte does to the number that those before it say.
-- Numbers only grow, so that one past 65,535 stays past it.
use Rattle.std.proofs.Common.{ℕ, suc, ◌+◌, ◌-◌, ◌*◌, ◌≤◌, ◌<◌, ◌≡◌, true, false, eqb, List, [], ◌∷◌, length, drop, get_or, Some, None, refl, sym, ap, ◌∙◌, le_refl, suc-ne-zero, add-one, arith, le-leb, drop-cons, drop_of_length-le}
use Rattle.std.proofs.Math.Bool.{and-false}
use Rattle.std.proofs.lemmas.Bool.{lt-leb, eqb-true}
use Rattle.play.specs.Decimal.{is_digit, are_digits, number_after, word_after, word_of}

grows : (before : ℕ) (bytes : List ℕ) → before ≤ number_after before bytes
unfolding number_after
grows before [] = le_refl before
grows before (byte ∷ rest) = let h = grows (10 * before + (byte - 48)) rest in omega arith

not_digit : (before byte : ℕ) (rest : List ℕ) → is_digit byte ≡ false → word_after before (byte ∷ rest) ≡ None
unfolding are_digits
not_digit before byte rest h = rw h

digit : (before byte : ℕ) (rest : List ℕ) → is_digit byte ≡ true
    → word_after before (byte ∷ rest) ≡ word_after (10 * before + (byte - 48)) rest
unfolding are_digits number_after
digit before byte rest h = rw h

too_large : (before : ℕ) (bytes : List ℕ) → 65535 < before → word_after before bytes ≡ None
too_large before bytes h =
    let g = grows before bytes in
    rw (lt-leb (number_after before bytes) 65535 (omega arith), and-false (are_digits bytes))

-- after the first i bytes, which say a number, what is left of them says the word
abbrev pub ReadTo : List ℕ → ℕ → ℕ → Type 0
ReadTo bytes number i =
    (i ≤ length bytes) × (number ≤ 65535) × (word_of bytes ≡ word_after number (drop i bytes))

pub none : (bytes : List ℕ) → true ≡ eqb (length bytes) 0 → None ≡ word_of bytes
unfolding word_of
none [] h = refl
none (byte ∷ rest) h = absurd (suc-ne-zero (length rest) (eqb-true _ _ (sym h)))

pub start : (bytes : List ℕ) → false ≡ eqb (length bytes) 0 → ReadTo bytes 0 0
unfolding word_of
start [] h = cc
start (byte ∷ rest) h = (omega arith, omega arith, refl)

module _ (bytes : List ℕ) (number i : ℕ) (read : ReadTo bytes number i) (within : i < length bytes) where
  at_byte : word_of bytes ≡ word_after number (get_or bytes i 0 ∷ drop (suc i) bytes)
  at_byte = read.2 ∙ ap (word_after number) (drop-cons bytes i 0 within)

  pub no_digit : is_digit (get_or bytes i 0) ≡ false → None ≡ word_of bytes
  no_digit h = sym (at_byte ∙ not_digit number _ _ h)

  after_digit : is_digit (get_or bytes i 0) ≡ true
      → word_of bytes ≡ word_after (10 * number + (get_or bytes i 0 - 48)) (drop (suc i) bytes)
  after_digit h = at_byte ∙ digit number _ _ h

  pub further : (next : ℕ) → is_digit (get_or bytes i 0) ≡ true → next ≡ 10 * number + (get_or bytes i 0 - 48)
      → next ≤ 65535 → ReadTo bytes next (i + 1)
  further next h e small = (omega arith, small, rw (add-one i, e) (after_digit h))

  pub past_words : is_digit (get_or bytes i 0) ≡ true → 65535 < 10 * number + (get_or bytes i 0 - 48) → None ≡ word_of bytes
  past_words h large = sym (after_digit h ∙ too_large _ (drop (suc i) bytes) large)

pub whole : (bytes : List ℕ) (number i : ℕ) → ReadTo bytes number i → length bytes ≤ i → Some number ≡ word_of bytes
unfolding are_digits number_after
whole bytes number i read end =
    sym (read.2 ∙ ap (word_after number) (drop_of_length-le bytes end) ∙ rw (le-leb number 65535 read.1))

-- what is known before the first byte, at a byte that ends the reading, and after the last
pub ruleset reading = (none, start, no_digit, past_words, whole)
