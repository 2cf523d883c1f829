-- Both ways round: an accepted program and its values, written and read again, come back; and an accepted file, read
-- and written again, gives the same bytes.
use mathlib.Core.Path.{◌≡◌, sym, ap, ◌∙◌, subst}
use mathlib.Core.Bool.{true}
use mathlib.Core.List.{List}
use Prim.Native.Nat.{ℕ, ◌+◌, ◌*◌, ◌/◌, ◌≤◌}
use native.Mathlib.Omega.{arith}
use lib.Pow.{are_bytes}
use lib.ListN.{length, take, drop}
use lib.Seq.{take_at, take-append_seam}
use borrow.Author.Tests.{eq-eqb, le-leb}
use Rattle.semantics.specs.Program.{Program}
use Rattle.semantics.specs.Bytes.{bytes_of}
use Rattle.semantics.specs.Check.{check_number}
use Rattle.semantics.specs.File.{Sizes, Parts, exprs_back, sizes_of, parts_of, file_of, sizes_in, parts_in}
use Rattle.semantics.specs.File.{program_from, program_in, file_ok}
use Rattle.semantics.specs.FileCalls.{Writing, filled, all_fit, all_filled}
use Rattle.semantics.specs.FileCalls.{read_answer, write_answer, sizes_answer}
use Rattle.semantics.specs.Facts.{first_parts}
use Rattle.semantics.proofs.Lists.QuestionLaws.{accepted}
use Rattle.semantics.proofs.Files.FileLaws.{PartsFit, length-made, sizes_made, parts_made, made_ok}
use Rattle.semantics.proofs.Files.FileLaws.{parts_in_fit, file_made, words_of_parts}
use Rattle.semantics.proofs.Files.FileCallLaws.{reading, writing, read_0, read_yes, write_0, sizes_yes}

-- ---- the file of an accepted program and its values

module _ (P : Program) (values : List ℕ) (ok : check_number P ≡ 0) (as_many : length values ≡ P.variables) where
  parts_of_fit : PartsFit (sizes_of P) (parts_of P values)
  parts_of_fit =
      let a = accepted P ok in
      let e = a.sizes.whole_exprs in
      let n = a.sizes.whole_nodes in
      record { exprs = omega arith; nodes = omega arith; values = as_many; widths = a.widths_fit.as_many }

  pub length-file : length (file_of P values) ≡ 2 * exprs_back (sizes_of P) + 16
  unfolding file_of
  length-file = length-made (sizes_of P) (parts_of P values) parts_of_fit

  sizes_of_file : sizes_in (file_of P values) ≡ sizes_of P
  unfolding file_of
  sizes_of_file = sizes_made (sizes_of P) (parts_of P values) parts_of_fit

  parts_of_file : parts_in (file_of P values) ≡ parts_of P values
  unfolding file_of
  parts_of_file = parts_made (sizes_of P) (parts_of P values) parts_of_fit

  file_of_ok : file_ok (file_of P values) ≡ true
  unfolding file_of
  file_of_ok = made_ok (sizes_of P) (parts_of P values) parts_of_fit

  program_of_file : program_in (file_of P values) ≡ P
  program_of_file = λ i. program_from (sizes_of_file i) (parts_of_file i)

  module _ (buffer : List ℕ) (long : length (file_of P values) ≤ length buffer) where
    pub written : write_answer P values buffer ≡ writing 0 0 (filled (file_of P values) buffer)
    written = write_0 P values buffer (sym ok) (eq-eqb _ _ as_many) (le-leb _ _ long)

    -- the bytes that write has put into the buffer
    pub file_written : take (length (file_of P values)) (write_answer P values buffer).buffer ≡ file_of P values
    file_written =
        ap (λ (w : Writing). take (length (file_of P values)) w.buffer) written
        ∙ take-append_seam (file_of P values) (drop (length (file_of P values)) buffer)

  read_of_file : (b : Parts) → all_fit (parts_of P values) b ≡ true
      → read_answer (file_of P values) b ≡ reading 0 0 (all_filled (parts_of P values) b)
  read_of_file b room =
      let p = parts_of_file in
      read_0 (file_of P values) b file_of_ok (sym ok ∙ ap check_number (sym program_of_file))
      (ap (λ (q : Parts). all_fit q b) p ∙ room)
      ∙ ap (λ (q : Parts). reading 0 0 (all_filled q b)) p

pub write_then_read : (P : Program) → check_number P ≡ 0 → (values : List ℕ) → length values ≡ P.variables
    → (buffer : List ℕ) → 2 * exprs_back (sizes_of P) + 16 ≤ length buffer
    → (lent : Parts) → all_fit (parts_of P values) lent ≡ true
    → (let written = write_answer P values buffer in
    let file = take (2 * exprs_back (sizes_of P) + 16) written.buffer in
    (written.number ≡ 0) × (sizes_answer file ≡ sizes_of P)
    × (read_answer file lent ≡ record { number = 0; item = 0; buffers = all_filled (parts_of P values) lent }))
write_then_read P ok values as_many buffer long lent room =
    let l = length-file P values ok as_many in
    let long' : length (file_of P values) ≤ length buffer = omega arith in
    let f : take (2 * exprs_back (sizes_of P) + 16) (write_answer P values buffer).buffer ≡ file_of P values =
    ap (λ (n : ℕ). take n (write_answer P values buffer).buffer) (sym l)
    ∙ file_written P values ok as_many buffer long' in (
      ap (λ (w : Writing). w.number) (written P values ok as_many buffer long'),
      ap sizes_answer f ∙ sizes_yes (file_of P values) (file_of_ok P values ok as_many) ∙ sizes_of_file P values ok as_many,
      ap (λ (g : List ℕ). read_answer g lent) f ∙ read_of_file P values ok as_many lent room,
    )

-- ---- an accepted file

module _ (file : List ℕ) (bytes : are_bytes file ≡ true) (ok : file_ok file ≡ true) where
  -- the sizes of its program are its own
  sizes_of_program : sizes_of (program_in file) ≡ sizes_in file
  sizes_of_program =
      let fit = parts_in_fit file ok in
      let e = fit.exprs in
      let n = fit.nodes in
      let nodes : length (parts_in file).nodes / 5 ≡ (sizes_in file).nodes = omega arith in
      let exprs : length (parts_in file).exprs / 3 ≡ (sizes_in file).exprs = omega arith in
      λ i. record {
        nodes = nodes i;
        exprs = exprs i;
        variables = (sizes_in file).variables;
        channels = (sizes_in file).channels;
      }

  file_of_parts : file_of (program_in file) (parts_in file).values ≡ file
  unfolding file_of
  file_of_parts = ap (λ (c : Sizes). bytes_of (words_of_parts c (parts_in file))) sizes_of_program ∙ file_made file ok bytes

-- the parts come back from the start of filled buffers
first_filled : (c : Sizes) (p b : Parts) → PartsFit c p → first_parts c (all_filled p b) ≡ p
first_filled c p b fit = λ i. record {
  exprs = take_at p.exprs (drop (length p.exprs) b.exprs) (3 * c.exprs) fit.exprs i;
  nodes = take_at p.nodes (drop (length p.nodes) b.nodes) (5 * c.nodes) fit.nodes i;
  values = take_at p.values (drop (length p.values) b.values) c.variables fit.values i;
  widths = take_at p.widths (drop (length p.widths) b.widths) c.variables fit.widths i;
}

pub read_then_write : (file : List ℕ) → are_bytes file ≡ true → (lent : Parts) → (read_answer file lent).number ≡ 0
    → (buffer : List ℕ) → length file ≤ length buffer
    → (let sizes = sizes_answer file in
    let parts = first_parts sizes (read_answer file lent).buffers in
    write_answer (program_from sizes parts) parts.values buffer
    ≡ record { number = 0; item = 0; buffer = filled file buffer })
read_then_write file bytes lent zero buffer long =
    let (ok, yes', room) = read_yes file lent zero in
    let fit = parts_in_fit file ok in
    let c : sizes_answer file ≡ sizes_in file = sizes_yes file ok in
    let p : first_parts (sizes_answer file) (read_answer file lent).buffers ≡ parts_in file =
    (λ i. first_parts (c i) (read_0 file lent ok (sym yes') room i).buffers)
    ∙ first_filled (sizes_in file) (parts_in file) lent fit in
    let f = file_of_parts file bytes ok in
    let l : length (file_of (program_in file) (parts_in file).values) ≤ length buffer =
    subst (λ (g : List ℕ). length g ≤ length buffer) (sym f) long in
    (λ i. write_answer (program_from (c i) (p i)) (p i).values buffer)
    ∙ written (program_in file) (parts_in file).values yes' fit.values buffer l
    ∙ ap (λ (g : List ℕ). writing 0 0 (filled g buffer)) f
