-- Laws of read, write and sizes: the whole answer, by the first question that is answered no, and where none is.
use mathlib.Core.Path.{◌≡◌, refl, ap, ◌∙◌}
use mathlib.Core.Bool.{true, false, cond}
use mathlib.Core.List.{List, [], ◌∷◌, ◌++◌}
use Prim.Native.Nat.{ℕ}
use lib.Dec.{eqb}
use lib.ListN.{length}
use Rattle.semantics.specs.Program.{Program}
use Rattle.semantics.specs.Questions.{Question, ask, first_no}
use Rattle.semantics.specs.Check.{check_questions, check_number, fault_item}
use Rattle.semantics.specs.File.{Parts, file_of, sizes_in, parts_in, program_in, file_ok}
use Rattle.semantics.specs.FileCalls.{Reading, Writing, filled, fits, all_fit, all_filled, read_answer, write_answer}
use Rattle.semantics.specs.FileCalls.{sizes_answer}
use Rattle.semantics.proofs.Lists.QuestionLaws.{after_check, all_yes, yes-all}
use Rattle.semantics.proofs.Lists.FaultLaws.{no_item}

-- ---- read

abbrev pub reading : ℕ → ℕ → Parts → Reading
reading q i b = record { number = q; item = i; buffers = b }

module _ (file : List ℕ) (b : Parts) where
  abbrev P : Program
  P = program_in file

  abbrev asked : ℕ
  asked = first_no (ask 12 (file_ok file) ∷ (check_questions P ++ ask 13 (all_fit (parts_in file) b) ∷ []))

  -- the answer by the first question answered no, which has number q and item i
  by_number : (q i : ℕ) → asked ≡ q → fault_item P q ≡ i
      → read_answer file b ≡ reading q i (cond (eqb q 0) (all_filled (parts_in file) b) b)
  unfolding read_answer
  by_number q i e f =
      (λ j. reading (e j) (fault_item P (e j)) (cond (eqb (e j) 0) (all_filled (parts_in file) b) b))
      ∙ ap (λ (x : ℕ). reading q x (cond (eqb q 0) (all_filled (parts_in file) b) b)) f

  pub read_12 : file_ok file ≡ false → read_answer file b ≡ reading 12 0 b
  read_12 h = by_number 12 0 (rw h refl) (no_item P 12 refl)

  module _ (ok : file_ok file ≡ true) where
    then_check : (q : ℕ) → q ≡ check_number P
        → asked ≡ cond (eqb q 0) (first_no (ask 13 (all_fit (parts_in file) b) ∷ [])) q
    then_check q e = rw ok (after_check P (ask 13 (all_fit (parts_in file) b) ∷ []) q e)

    pub read_check : (q i : ℕ) → q ≡ check_number P → eqb q 0 ≡ false → fault_item P q ≡ i
        → read_answer file b ≡ reading q i b
    read_check q i e n f = by_number q i (then_check q e ∙ rw n refl) f ∙ rw n refl

    module _ (accepted : 0 ≡ check_number P) where
      pub read_13 : all_fit (parts_in file) b ≡ false → read_answer file b ≡ reading 13 0 b
      read_13 h = by_number 13 0 (then_check 0 accepted ∙ rw h refl) (no_item P 13 refl)

      pub read_0 : all_fit (parts_in file) b ≡ true → read_answer file b ≡ reading 0 0 (all_filled (parts_in file) b)
      read_0 h = by_number 0 0 (then_check 0 accepted ∙ rw h refl) (no_item P 0 refl)

  -- the number 0: every question is answered yes
  pub read_yes : (read_answer file b).number ≡ 0
      → (file_ok file ≡ true) × (check_number P ≡ 0) × (all_fit (parts_in file) b ≡ true)
  unfolding read_answer check_number
  read_yes h =
      let (ok, (one, (two, (three, (four, (eleven, (fit, _))))))) =
      yes-all (ask 12 (file_ok file) ∷ (check_questions P ++ ask 13 (all_fit (parts_in file) b) ∷ [])) refl h in
      (ok, all_yes (check_questions P) (one, (two, (three, (four, (eleven, tt))))), fit)

-- ---- write

abbrev pub writing : ℕ → ℕ → List ℕ → Writing
writing q i b = record { number = q; item = i; buffer = b }

module _ (P : Program) (values buffer : List ℕ) where
  abbrev file : List ℕ
  file = file_of P values

  abbrev later : List Question
  later = ask 5 (eqb (length values) P.variables) ∷ ask 13 (fits file buffer) ∷ []

  written_by : (q i : ℕ) → first_no (check_questions P ++ later) ≡ q → fault_item P q ≡ i
      → write_answer P values buffer ≡ writing q i (cond (eqb q 0) (filled file buffer) buffer)
  unfolding write_answer
  written_by q i e f =
      (λ j. writing (e j) (fault_item P (e j)) (cond (eqb (e j) 0) (filled file buffer) buffer))
      ∙ ap (λ (x : ℕ). writing q x (cond (eqb q 0) (filled file buffer) buffer)) f

  pub write_check : (q i : ℕ) → q ≡ check_number P → eqb q 0 ≡ false → fault_item P q ≡ i
      → write_answer P values buffer ≡ writing q i buffer
  write_check q i e n f = written_by q i (after_check P later q e ∙ rw n refl) f ∙ rw n refl

  module _ (accepted : 0 ≡ check_number P) where
    pub write_5 : eqb (length values) P.variables ≡ false → write_answer P values buffer ≡ writing 5 0 buffer
    write_5 n = written_by 5 0 (after_check P later 0 accepted ∙ rw n refl) (no_item P 5 refl)

    module _ (as_many : eqb (length values) P.variables ≡ true) where
      pub write_13 : fits file buffer ≡ false → write_answer P values buffer ≡ writing 13 0 buffer
      write_13 n = written_by 13 0 (after_check P later 0 accepted ∙ rw (as_many, n) refl) (no_item P 13 refl)

      pub write_0 : fits file buffer ≡ true → write_answer P values buffer ≡ writing 0 0 (filled file buffer)
      write_0 h = written_by 0 0 (after_check P later 0 accepted ∙ rw (as_many, h) refl) (no_item P 0 refl)

-- ---- sizes

pub sizes_yes : (file : List ℕ) → file_ok file ≡ true → sizes_answer file ≡ sizes_in file
unfolding sizes_answer
sizes_yes file h = rw h refl

pub sizes_no : (file : List ℕ) → file_ok file ≡ false
    → sizes_answer file ≡ record { nodes = 0; exprs = 0; variables = 0; channels = 0 }
unfolding sizes_answer
sizes_no file h = rw h refl
