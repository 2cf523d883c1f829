-- From a whole answer of the rules to what a call promises.
use mathlib.Core.Path.{◌≡◌, sym, ap, ◌∙◌}
use mathlib.Core.List.{List}
use Prim.Native.Nat.{ℕ}
use Rattle.semantics.specs.Program.{Program}
use Rattle.semantics.specs.File.{Parts}
use Rattle.semantics.specs.FileCalls.{Reading, Writing, read_answer, write_answer}
use Rattle.semantics.proofs.Files.FileCallLaws.{reading, writing}
use Rattle.paper.specs.Read.{ReadAnswer}
use Rattle.paper.specs.Write.{WriteAnswer}

pub by_reading : {file : List ℕ} {lent : Parts} {q i : ℕ} {b : Parts} → read_answer file lent ≡ reading q i b
    → (left : Parts) → left ≡ b → ReadAnswer file lent q i left
by_reading {q = q} {i = i} e left same =
    let right = ap (reading q i) same ∙ sym e in
    record {
      right_number = ap (λ (r : Reading). r.number) right;
      right_item = ap (λ (r : Reading). r.item) right;
      right_exprs = ap (λ (r : Reading). r.buffers.exprs) right;
      right_nodes = ap (λ (r : Reading). r.buffers.nodes) right;
      right_values = ap (λ (r : Reading). r.buffers.values) right;
      right_widths = ap (λ (r : Reading). r.buffers.widths) right;
    }

pub by_writing : {P : Program} {values lent : List ℕ} {q i : ℕ} {b : List ℕ}
    → write_answer P values lent ≡ writing q i b → (left : List ℕ) → left ≡ b → WriteAnswer P values lent q i left
by_writing {q = q} {i = i} e left same =
    let right = ap (writing q i) same ∙ sym e in
    record {
      right_number = ap (λ (w : Writing). w.number) right;
      right_item = ap (λ (w : Writing). w.item) right;
      right_buffer = ap (λ (w : Writing). w.buffer) right;
    }
