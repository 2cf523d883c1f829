-- The end theorems on both ways round, of calls: they rest on what sizes, read and write promise, and on nothing of
-- their code.
use mathlib.Core.Path.{◌≡◌, sym, ap, ◌∙◌}
use mathlib.Core.Bool.{true}
use mathlib.Core.List.{List}
use Prim.Native.Nat.{ℕ, ◌+◌, ◌*◌, ◌≤◌}
use lib.Pow.{are_bytes}
use lib.ListN.{length, take}
use Rattle.semantics.specs.Program.{Program}
use Rattle.semantics.specs.Check.{check_number}
use Rattle.semantics.specs.File.{Sizes, Parts, exprs_back, sizes_of, parts_of, program_from}
use Rattle.semantics.specs.FileCalls.{Reading, Writing, filled, all_fit, all_filled, read_answer, write_answer}
use Rattle.semantics.specs.FileCalls.{sizes_answer}
use Rattle.semantics.specs.Facts.{first_parts}
use Rattle.semantics.proofs.Main as rules
use Rattle.paper.proofs.OneResult.{SizesGives, ReadGives, WriteGives, rules_sizes, rules_reading, rules_writing}

-- An accepted program with a value for each variable is written into a buffer that is long enough, with the result w,
-- and the bytes of the file there are handed to sizes, with the result c, and are read into buffers that are long
-- enough, with the result r: the sizes, the four parts and the numbers are right, and spare words are as they stood.
pub write_then_read : (P : Program) → check_number P ≡ 0 → (values : List ℕ) → length values ≡ P.variables
    → (buffer : List ℕ) → 2 * exprs_back (sizes_of P) + 16 ≤ length buffer
    → (lent : Parts) → all_fit (parts_of P values) lent ≡ true
    → (w : Writing) → WriteGives P values buffer w
    → (let file = take (2 * exprs_back (sizes_of P) + 16) w.buffer in
    (c : Sizes) → SizesGives file c → (r : Reading) → ReadGives file lent r
    → (w.number ≡ 0) × (c ≡ sizes_of P)
    × (r ≡ record { number = 0; item = 0; buffers = all_filled (parts_of P values) lent }))
write_then_read P ok values as_many buffer long lent room w wrote c sized r did =
    let (number, sizes, reading) = rules.write_then_read P ok values as_many buffer long lent room in
    let n = 2 * exprs_back (sizes_of P) + 16 in
    let e = rules_writing wrote in (
      ap (λ (x : Writing). x.number) e ∙ number,
      rules_sizes sized ∙ ap (λ (x : Writing). sizes_answer (take n x.buffer)) e ∙ sizes,
      rules_reading did ∙ ap (λ (x : Writing). read_answer (take n x.buffer) lent) e ∙ reading,
    )

-- Bytes are read with number 0 and the result r, and sizes gives c for them. The program and the values that stand at
-- the start of the buffers, written into a buffer that is long enough with the result w, are the same bytes; spare
-- bytes are as they stood.
pub read_then_write : (file : List ℕ) → are_bytes file ≡ true → (lent : Parts)
    → (r : Reading) → ReadGives file lent r → r.number ≡ 0 → (c : Sizes) → SizesGives file c
    → (buffer : List ℕ) → length file ≤ length buffer
    → (let parts = first_parts c r.buffers in
    (w : Writing) → WriteGives (program_from c parts) parts.values buffer w
    → w ≡ record { number = 0; item = 0; buffer = filled file buffer })
read_then_write file bytes lent r did zero c sized buffer long w wrote =
    let read = rules_reading did in
    let sizes = rules_sizes sized in
    let parts : first_parts c r.buffers ≡ first_parts (sizes_answer file) (read_answer file lent).buffers =
    λ i. first_parts (sizes i) (read i).buffers in
    rules_writing wrote ∙ (λ i. write_answer (program_from (sizes i) (parts i)) (parts i).values buffer)
    ∙ rules.read_then_write file bytes lent (sym (ap (λ (x : Reading). x.number) read) ∙ zero) buffer long
