-- From what the code of write has found and put to the rules' answer, once the program is accepted and there is a value
-- for each variable.
use mathlib.Core.Path.{◌≡◌, sym, ap, ◌∙◌}
use mathlib.Core.List.{List, ◌++◌}
use Prim.Native.Nat.{ℕ, ◌+◌, ◌*◌, ◌≤◌, ◌<◌}
use native.Mathlib.Omega.{arith}
use lib.ListN.{length}
use lib.Seq.{paste}
use borrow.Author.Tests.{eq-eqb, le-leb, lt-leb}
use Rattle.semantics.specs.Program.{Program, expr_count, node_count}
use Rattle.semantics.specs.Check.{check_number}
use Rattle.semantics.specs.Bytes.{bytes_of}
use Rattle.semantics.specs.File.{sizes_of, trailer, file_of}
use Rattle.semantics.specs.FileCalls.{filled}
use Rattle.semantics.proofs.Files.FileLaws.{length-four, length-of_file}
use Rattle.semantics.proofs.Files.FileCallLaws.{write_13, write_0}
use Rattle.semantics.proofs.Lists.QuestionLaws.{accepted}
use Rattle.program.specs.Answer.{program_of}
use Rattle.paper.specs.Write.{WriteAnswer}
use Rattle.paper.proofs.AnswerLaws.{by_writing}
use Rattle.paper.proofs.WordLaws.{put_next}

-- the counts of an accepted program
pub limits : (exprs nodes widths : List ℕ) (vars chans : ℕ) → check_number (program_of exprs nodes widths vars chans) ≡ 0
    → (expr_count exprs ≤ 1024) × (node_count nodes ≤ 1024) × (vars ≤ 256)
limits exprs nodes widths vars chans ok =
    let s = (accepted (program_of exprs nodes widths vars chans) ok).sizes in
    (s.exprs_fit, s.nodes_fit, s.variables_fit)

-- with a value for each variable, the parts of an accepted program are short
pub short : (exprs nodes widths values : List ℕ) (vars chans : ℕ)
    → 0 ≡ check_number (program_of exprs nodes widths vars chans) → length values ≡ vars
    → length exprs + length nodes + length values + length widths ≤ 8704
short exprs nodes widths values vars chans ok as_many =
    let facts = accepted (program_of exprs nodes widths vars chans) (sym ok) in
    let s = facts.sizes in
    let w = facts.widths_fit in
    omega arith

module _ (P : Program) (values lent : List ℕ) (accepted : 0 ≡ check_number P)
    (as_many : length values ≡ P.variables) where
  -- how many words there are before the trailer
  abbrev words : ℕ
  words = length P.exprs + length P.nodes + length values + length P.widths

  pub answer_13 : length lent < 2 * words + 16 → (left : List ℕ) → left ≡ lent → WriteAnswer P values lent 13 0 left
  answer_13 short =
      let l = length-of_file P values in
      let n : length lent < length (file_of P values) = omega arith in
      by_writing (write_13 P values lent accepted (eq-eqb _ _ as_many) (lt-leb _ _ n))

  -- the parts are put, and then the trailer
  pub answer_0 : 2 * words + 16 ≤ length lent → (file last left : List ℕ)
      → file ≡ filled (bytes_of (P.exprs ++ P.nodes ++ values ++ P.widths)) lent → last ≡ trailer (sizes_of P)
      → left ≡ paste file (2 * words) (bytes_of last) (2 * length last) → WriteAnswer P values lent 0 0 left
  unfolding file_of
  answer_0 long file last left parts t put =
      let l = length-of_file P values in
      let n : length (file_of P values) ≤ length lent = omega arith in
      let front = P.exprs ++ P.nodes ++ values ++ P.widths in
      let four = length-four P.exprs P.nodes values P.widths in
      by_writing (write_0 P values lent accepted (eq-eqb _ _ as_many) (le-leb _ _ n)) left
      (put ∙ put_next front last (2 * words) file lent (omega arith) parts
      ∙ ap (λ (ws : List ℕ). filled (bytes_of (front ++ ws)) lent) t)
