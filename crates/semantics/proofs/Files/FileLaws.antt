-- Laws of a file: what question 12 says where it is answered yes, what parts of the right lengths give as a file, and
-- that a file is made of its parts.
use mathlib.Core.Path.{◌≡◌, refl, sym, ap, ◌∙◌}
use mathlib.Core.Bool.{Bool, true, false, ◌&&◌, and-false}
use mathlib.Core.List.{List, [], ◌∷◌, ◌++◌, append_assoc}
use Prim.Native.Nat.{ℕ, zero, suc, ◌+◌, ◌-◌, ◌*◌, ◌/◌, ◌%◌, ◌≤◌, ◌<◌}
use native.Mathlib.Omega.{arith}
use lib.Dec.{eqb, leb}
use lib.Pow.{are_bytes}
use lib.ListN.{length, get_or, take, drop, length-append, length-drop, take-append-drop, drop_of_length-le}
use lib.Seq.{take_at, drop_at, drop-cons, drop-drop, length-take-le}
use borrow.Author.Tests.{eqb-true, eq-eqb, le-leb, lt-leb}
use Rattle.semantics.specs.Program.{Program}
use Rattle.semantics.specs.Bytes.{bytes_of, words_of}
use Rattle.semantics.specs.File.{Sizes, Parts, exprs_back, nodes_back, values_back, widths_back, trailer}
use Rattle.semantics.specs.File.{sizes_of, file_of}
use Rattle.semantics.specs.File.{trailer_in, sizes_in, parts_at, parts_in, distances_ok, file_ok}
use Rattle.semantics.proofs.Lists.Logic.{conjuncts}
use Rattle.semantics.proofs.Files.BytesLaws.{length-bytes, words_bytes, length-words, bytes_words}

-- ---- parts of the right lengths

-- the words of four parts
pub length-four : (e n v w : List ℕ) → length (e ++ n ++ v ++ w) ≡ length e + length n + length v + length w
length-four e n v w =
    length-append (e ++ n ++ v) w
    ∙ ap (λ (k : ℕ). k + length w) (length-append (e ++ n) v ∙ ap (λ (k : ℕ). k + length v) (length-append e n))

pub record PartsFit (c : Sizes) (p : Parts) : Type 0 where
  pub exprs : length p.exprs ≡ 3 * c.exprs
  pub nodes : length p.nodes ≡ 5 * c.nodes
  pub values : length p.values ≡ c.variables
  pub widths : length p.widths ≡ c.variables

-- the words and the bytes of a file of these parts
abbrev pub words_of_parts : Sizes → Parts → List ℕ
words_of_parts c p = p.exprs ++ p.nodes ++ p.values ++ p.widths ++ trailer c

module _ (c : Sizes) (p : Parts) (fit : PartsFit c p) where
  abbrev front : List ℕ
  front = p.exprs ++ p.nodes ++ p.values ++ p.widths

  length_front : length front ≡ exprs_back c
  length_front =
      let e = fit.exprs in
      let n = fit.nodes in
      let v = fit.values in
      let w = fit.widths in
      length-four p.exprs p.nodes p.values p.widths ∙ omega arith

  abbrev made : List ℕ
  made = bytes_of (words_of_parts c p)

  pub length-made : length made ≡ 2 * exprs_back c + 16
  length-made =
      let e = length_front in
      let l = length-append front (trailer c) in
      length-bytes (words_of_parts c p) ∙ omega arith

  pub trailer_made : trailer_in made ≡ trailer c
  trailer_made =
      let e = length_front in
      let l = length-made in
      ap (λ (ws : List ℕ). drop (length made / 2 - 8) ws) (words_bytes (words_of_parts c p))
      ∙ drop_at front (trailer c) (length made / 2 - 8) (omega arith)

  pub sizes_made : sizes_in made ≡ c
  sizes_made = rw trailer_made refl

  parts_at_lem : parts_at c (words_of_parts c p) ≡ p
  parts_at_lem =
      let t = trailer c in
      let w = p.widths ++ t in
      let v = p.values ++ w in
      let n = p.nodes ++ v in
      let e : words_of_parts c p ≡ p.exprs ++ n =
      append_assoc (p.exprs ++ p.nodes ++ p.values) p.widths t
      ∙ append_assoc (p.exprs ++ p.nodes) p.values w
      ∙ append_assoc p.exprs p.nodes v in
      rw (
        e,
        take_at p.exprs n (3 * c.exprs) fit.exprs,
        drop_at p.exprs n (3 * c.exprs) fit.exprs,
        take_at p.nodes v (5 * c.nodes) fit.nodes,
        drop_at p.nodes v (5 * c.nodes) fit.nodes,
        take_at p.values w c.variables fit.values,
        drop_at p.values w c.variables fit.values,
        take_at p.widths t c.variables fit.widths,
      ) refl

  pub parts_made : parts_in made ≡ p
  parts_made = (λ i. parts_at (sizes_made i) (words_bytes (words_of_parts c p) i)) ∙ parts_at_lem

  pub made_ok : file_ok made ≡ true
  unfolding file_ok
  made_ok =
      let l = length-made in
      let same : (n : ℕ) → eqb n n ≡ true = λ n. eq-eqb n n refl in
      let own : distances_ok c (trailer c) ≡ true =
      λ i. same (exprs_back c) i && same (nodes_back c) i && same (values_back c) i && same (widths_back c) i in
      let d : distances_ok (sizes_in made) (trailer_in made) ≡ true =
      (λ i. distances_ok (sizes_made i) (trailer_made i)) ∙ own in
      let s : eqb (length made) (2 * exprs_back (sizes_in made) + 16) ≡ true =
      eq-eqb _ _ (l ∙ ap (λ (x : Sizes). 2 * exprs_back x + 16) (sym sizes_made)) in
      λ i. eq-eqb (length made % 2) 0 (omega arith) i && le-leb 16 (length made) (omega arith) i && d i && s i

-- ---- the file of any program and values

-- it is as long as its parts and the trailer
pub length-of_file : (P : Program) (values : List ℕ) → length (file_of P values)
    ≡ 2 * (length P.exprs + length P.nodes + length values + length P.widths) + 16
unfolding file_of
length-of_file P values =
    let front = P.exprs ++ P.nodes ++ values ++ P.widths in
    let t = trailer (sizes_of P) in
    let four = length-four P.exprs P.nodes values P.widths in
    let d : length (front ++ t) ≡ length front + 8 = length-append front t in
    length-bytes (front ++ t) ∙ omega arith

-- ---- question 12 answered yes

pub record FileFits (file : List ℕ) : Type 0 where
  pub even : length file % 2 ≡ 0
  pub exprs : get_or (trailer_in file) 4 0 ≡ exprs_back (sizes_in file)
  pub nodes : get_or (trailer_in file) 5 0 ≡ nodes_back (sizes_in file)
  pub values : get_or (trailer_in file) 6 0 ≡ values_back (sizes_in file)
  pub widths : get_or (trailer_in file) 7 0 ≡ widths_back (sizes_in file)
  pub size : length file ≡ 2 * exprs_back (sizes_in file) + 16

pub file_fits : (file : List ℕ) → file_ok file ≡ true → FileFits file
unfolding file_ok
file_fits file h =
    let c = sizes_in file in
    let words = trailer_in file in
    let (even, (_, (distances, (size, _)))) = conjuncts (eqb (length file % 2) 0)
    (leb 16 (length file) ∷ distances_ok c words ∷ eqb (length file) (2 * exprs_back c + 16) ∷ []) h in
    let (e, (n, (v, (w, _)))) = conjuncts (eqb (get_or words 4 0) (exprs_back c))
    (eqb (get_or words 5 0) (nodes_back c) ∷ eqb (get_or words 6 0) (values_back c)
    ∷ eqb (get_or words 7 0) (widths_back c) ∷ []) distances in
    record {
      even = eqb-true _ _ even;
      exprs = eqb-true _ _ e;
      nodes = eqb-true _ _ n;
      values = eqb-true _ _ v;
      widths = eqb-true _ _ w;
      size = eqb-true _ _ size;
    }

pub file_least : (file : List ℕ) → file_ok file ≡ true → 16 ≤ length file
file_least file h = let s = (file_fits file h).size in omega arith

-- bytes without a trailer are no file
pub no_trailer : (file : List ℕ) → length file < 16 → file_ok file ≡ false
unfolding file_ok
no_trailer file l = rw (lt-leb 16 (length file) l, and-false (eqb (length file % 2) 0)) refl

-- where there is one, the tests of question 12 one after the other
pub asked_in_turn : (file : List ℕ) (c : Sizes) → 16 ≤ length file → c ≡ sizes_in file
    → (let words = trailer_in file in
    eqb (length file % 2) 0 && eqb (get_or words 4 0) (exprs_back c) && eqb (get_or words 5 0) (nodes_back c)
    && eqb (get_or words 6 0) (values_back c) && eqb (get_or words 7 0) (widths_back c)
    && eqb (length file) (2 * exprs_back c + 16))
    ≡ file_ok file
unfolding file_ok
asked_in_turn file c l e =
    rw (le-leb 16 (length file) l, e) (pick (eqb (length file % 2) 0) _ _ _ _ _)
  where
    pick : (a b c d e f : Bool) → a && b && c && d && e && f ≡ a && true && (b && c && d && e) && f
    pick true b c d e f = refl
    pick false b c d e f = refl

-- the parts of enough words have the lengths that the sizes require
pub parts_fit : (c : Sizes) (words : List ℕ) → exprs_back c ≤ length words → PartsFit c (parts_at c words)
parts_fit c words l =
    let es = drop (3 * c.exprs) words in
    let ns = drop (5 * c.nodes) es in
    let vs = drop c.variables ns in
    let e = length-drop (3 * c.exprs) words in
    let n = length-drop (5 * c.nodes) es in
    let v = length-drop c.variables ns in
    record {
      exprs = length-take-le (3 * c.exprs) words (omega arith);
      nodes = length-take-le (5 * c.nodes) es (omega arith);
      values = length-take-le c.variables ns (omega arith);
      widths = length-take-le c.variables vs (omega arith);
    }

-- the n elements of a list from index j on
abbrev elements_from : List ℕ → ℕ → ℕ → List ℕ
elements_from l zero j = []
elements_from l (suc n) j = get_or l j 0 ∷ elements_from l n (suc j)

elements_from_lem : (l : List ℕ) (n j : ℕ) → j + n ≡ length l → drop j l ≡ elements_from l n j
elements_from_lem l zero j e = let f : length l ≤ j = omega arith in drop_of_length-le l f
elements_from_lem l (suc n) j e =
    drop-cons l j 0 (omega arith) ∙ ap (λ (r : List ℕ). get_or l j 0 ∷ r) (elements_from_lem l n (suc j) (omega arith))

-- a further part in front of what is left
part_more : (front l : List ℕ) (n : ℕ) → front ++ l ≡ front ++ take n l ++ drop n l
part_more front l n =
    ap (λ (r : List ℕ). front ++ r) (sym (take-append-drop n l)) ∙ sym (append_assoc front (take n l) (drop n l))

module _ (file : List ℕ) (ok : file_ok file ≡ true) where
  abbrev found : Sizes
  found = sizes_in file

  pub length-words_in : length (words_of file) ≡ exprs_back found + 8
  length-words_in =
      let s = (file_fits file ok).size in length-words file ∙ omega arith

  pub parts_in_fit : PartsFit found (parts_in file)
  parts_in_fit = let l = length-words_in in parts_fit found (words_of file) (omega arith)

  pub trailer_in_lem : trailer_in file ≡ trailer found
  trailer_in_lem =
      let fits = file_fits file ok in
      let s = fits.size in
      let l = length-words_in in
      let words = trailer_in file in
      let d = length-drop (length file / 2 - 8) (words_of file) in
      elements_from_lem words 8 0 (omega arith)
      ∙ (λ i. found.nodes ∷ found.exprs ∷ found.variables ∷ found.channels
      ∷ fits.exprs i ∷ fits.nodes i ∷ fits.values i ∷ fits.widths i ∷ [])

  -- a file is its parts and its trailer
  pub words_in : words_of file ≡ words_of_parts found (parts_in file)
  words_in =
      let c = found in
      let p = parts_in file in
      let es = drop (3 * c.exprs) (words_of file) in
      let ns = drop (5 * c.nodes) es in
      let vs = drop c.variables ns in
      let s = (file_fits file ok).size in
      let e : 3 * c.exprs + (5 * c.nodes + (c.variables + c.variables)) ≡ length file / 2 - 8 = omega arith in
      let left : drop c.variables vs ≡ trailer c =
      drop-drop c.variables c.variables ns ∙ drop-drop (c.variables + c.variables) (5 * c.nodes) es
      ∙ drop-drop (5 * c.nodes + (c.variables + c.variables)) (3 * c.exprs) (words_of file)
      ∙ ap (λ (k : ℕ). drop k (words_of file)) e ∙ trailer_in_lem in
      sym (take-append-drop (3 * c.exprs) (words_of file)) ∙ part_more p.exprs es (5 * c.nodes)
      ∙ part_more (p.exprs ++ p.nodes) ns c.variables
      ∙ part_more (p.exprs ++ p.nodes ++ p.values) vs c.variables
      ∙ ap (λ (r : List ℕ). p.exprs ++ p.nodes ++ p.values ++ p.widths ++ r) left

  -- so it is what its parts make
  pub file_made : are_bytes file ≡ true → bytes_of (words_of_parts found (parts_in file)) ≡ file
  file_made b = ap bytes_of (sym words_in) ∙ bytes_words file b (file_fits file ok).even
