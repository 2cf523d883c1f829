-- An end theorem of this crate: sizes, read and write are functions of what they are lent. Take any two results that
-- keep a call's promise for the same file and buffers, or for the same program, values and buffer: they are equal. It
-- is said once of the sizes, or number and item, and the buffers, once of the Option of file_sizes and the Results of
-- read and write, and once of what they hand to C, where sizes, or number and item, are in one word.
use mathlib.Core.Path.{◌≡◌, refl, sym, ap, ◌∙◌}
use mathlib.Core.List.{List}
use Prim.Native.Nat.{ℕ, ◌+◌, ◌*◌, ◌/◌}
use mathlib.Core.Bool.{Bool, true, false}
use native.Mathlib.Omega.{arith}
use Rattle.std.specs.Prelude.{Result, Option, Some, None, ⊤}
use Rattle.semantics.specs.Program.{Program}
use Rattle.semantics.specs.File.{Sizes, Parts, file_ok}
use Rattle.semantics.specs.FileCalls.{Reading, Writing, read_answer, write_answer, sizes_answer}
use Rattle.semantics.proofs.Lists.OneResult.{OneResult, determined}
use Rattle.program.specs.Answer.{number_of, item_of}
use Rattle.program.specs.Word.{number_in, item_in}
use Rattle.program.specs.declared.refusal.Refusal.{Refusal}
use Rattle.program.proofs.AnswerLaws.{word_of_parts, ok_alone, result_of, result_told}
use Rattle.paper.specs.Read.{ReadAnswer}
use Rattle.paper.specs.declared.lengths.FileSizes.{FileSizes}
use Rattle.paper.specs.Sizes.{SizesAnswer, given, is_given, nodes_in, exprs_in, vars_in, chans_in}
use Rattle.paper.specs.Write.{WriteAnswer}

-- ---- what the calls hand back, and that it keeps their promises: what an answer of the rules has

abbrev pub SizesGives : List ℕ → Sizes → Type 0
SizesGives file c = SizesAnswer file c.nodes c.exprs c.variables c.channels

abbrev pub ReadGives : List ℕ → Parts → Reading → Type 0
ReadGives file lent r = ReadAnswer file lent r.number r.item r.buffers

abbrev pub WriteGives : Program → List ℕ → List ℕ → Writing → Type 0
WriteGives P values lent w = WriteAnswer P values lent w.number w.item w.buffer

-- ---- in Rattle

-- both clauses of file_sizes: the sizes, and whether there are any
abbrev pub SizesGivesOption : List ℕ → Option FileSizes → Type 0
SizesGivesOption file r =
    SizesAnswer file (given r).nodes (given r).exprs (given r).vars (given r).chans × (is_given r ≡ file_ok file)

-- the Result and the four buffers
abbrev pub ReadGivesResult : List ℕ → Parts → (Result ⊤ Refusal × Parts) → Type 0
ReadGivesResult file lent (r, left) = ReadAnswer file lent (number_of r) (item_of r) left

-- the Result and the buffer
abbrev pub WriteGivesResult : Program → List ℕ → List ℕ → (Result ⊤ Refusal × List ℕ) → Type 0
WriteGivesResult P values lent (r, left) = WriteAnswer P values lent (number_of r) (item_of r) left

-- ---- to C

abbrev pub SizesGivesWord : List ℕ → ℕ → Type 0
SizesGivesWord file word = SizesAnswer file (nodes_in word) (exprs_in word) (vars_in word) (chans_in word)

-- the word and the four buffers
abbrev pub ReadGivesWord : List ℕ → Parts → (ℕ × Parts) → Type 0
ReadGivesWord file lent (word, left) = ReadAnswer file lent (number_in word) (item_in word) left

-- the word and the buffer
abbrev pub WriteGivesWord : Program → List ℕ → List ℕ → (ℕ × List ℕ) → Type 0
WriteGivesWord P values lent (word, left) = WriteAnswer P values lent (number_in word) (item_in word) left

-- ---- the theorem

pub rules_sizes : {file : List ℕ} {c : Sizes} → SizesGives file c → c ≡ sizes_answer file
rules_sizes g = λ i. record {
  nodes = g.right_nodes i;
  exprs = g.right_exprs i;
  variables = g.right_vars i;
  channels = g.right_chans i;
}

buffers_left : {file : List ℕ} {lent left : Parts} {number item : ℕ} → ReadAnswer file lent number item left
    → left ≡ (read_answer file lent).buffers
buffers_left g = λ i. record {
  exprs = g.right_exprs i;
  nodes = g.right_nodes i;
  values = g.right_values i;
  widths = g.right_widths i;
}

pub rules_reading : {file : List ℕ} {lent : Parts} {r : Reading} → ReadGives file lent r → r ≡ read_answer file lent
rules_reading g = λ i. record { number = g.right_number i; item = g.right_item i; buffers = buffers_left g i }

pub rules_writing : {P : Program} {values lent : List ℕ} {w : Writing} → WriteGives P values lent w
    → w ≡ write_answer P values lent
rules_writing g = λ i. record { number = g.right_number i; item = g.right_item i; buffer = g.right_buffer i }

-- the Option of file_sizes is told by the sizes, and by whether there are any
abbrev option_of : Bool → FileSizes → Option FileSizes
option_of true sizes = Some sizes
option_of false sizes = None

option_told : (r : Option FileSizes) → r ≡ option_of (is_given r) (given r)
option_told (Some sizes) = refl
option_told None = refl

-- a word is made of four sizes
word_of_sizes : (word : ℕ) {n e v c : ℕ} → nodes_in word ≡ n → exprs_in word ≡ e → vars_in word ≡ v
    → chans_in word ≡ c
    → word ≡ n + 65536 * (e + 65536 * (v + 65536 * c))
word_of_sizes word n e v c =
    let upper : item_in (item_in word) ≡ word / 4294967296 = omega arith in
    let top : item_in (item_in (item_in word)) ≡ chans_in word = omega arith in
    let third : vars_in word ≡ number_in (item_in (item_in word)) = ap number_in (sym upper) in
    word_of_parts word n
    (word_of_parts (item_in word) e (word_of_parts (item_in (item_in word)) (sym third ∙ v) (top ∙ c)))

module _ (file : List ℕ) (lent : Parts) (P : Program) (values buffer : List ℕ) where
  pub one_result : OneResult (SizesGives file) × OneResult (ReadGives file lent)
      × OneResult (WriteGives P values buffer)
  one_result = (determined (λ c. rules_sizes), determined (λ r. rules_reading), determined (λ w. rules_writing))

  pub one_given : OneResult (SizesGivesOption file) × OneResult (ReadGivesResult file lent)
      × OneResult (WriteGivesResult P values buffer)
  one_given = (
    determined (λ r g. option_told r ∙ (λ i. option_of (g.1 i) (record {
      nodes = g.0.right_nodes i;
      exprs = g.0.right_exprs i;
      vars = g.0.right_vars i;
      chans = g.0.right_chans i;
    }))),
    determined (λ r g. (λ i. (result_told tt r.0 (ok_alone r.0) i, r.1))
        ∙ (λ i. (result_of tt (g.right_number i) (g.right_item i), buffers_left g i))),
    determined (λ r g. (λ i. (result_told tt r.0 (ok_alone r.0) i, r.1))
        ∙ (λ i. (result_of tt (g.right_number i) (g.right_item i), g.right_buffer i))),
  )

  pub one_word : OneResult (SizesGivesWord file) × OneResult (ReadGivesWord file lent)
      × OneResult (WriteGivesWord P values buffer)
  one_word = (
    determined (λ word g. word_of_sizes word g.right_nodes g.right_exprs g.right_vars g.right_chans),
    determined (λ r g i. (word_of_parts r.0 g.right_number g.right_item i, buffers_left g i)),
    determined (λ r g i. (word_of_parts r.0 g.right_number g.right_item i, g.right_buffer i)),
  )
