-- The calls read, write and sizes, from request 3: their questions, and the buffers that they leave.
use Rattle.std.specs.Prelude.{Bool, cond, ◌&&◌, List, [], ◌∷◌, ◌++◌, ℕ, eqb, leb, length, drop}
use Rattle.semantics.specs.Program.{Program}
use Rattle.semantics.specs.Questions.{ask, first_no}
use Rattle.semantics.specs.Check.{check_questions, fault_item}
use Rattle.semantics.specs.File.{Sizes, Parts, file_of, sizes_in, parts_in, program_in, file_ok}

-- A list in a buffer, from its start; what stood in the spare elements stays.
abbrev pub filled : List ℕ → List ℕ → List ℕ
filled list buffer = list ++ drop (length list) buffer

-- A buffer is long enough for a list.
abbrev pub fits : List ℕ → List ℕ → Bool
fits list buffer = leb (length list) (length buffer)

-- ---- read

-- The number, the item and the four buffers.
pub record Reading : Type 0 where
  pub number : ℕ
  pub item : ℕ
  pub buffers : Parts

-- question 13 of a reader
abbrev pub all_fit : Parts → Parts → Bool
all_fit parts buffers =
    fits parts.exprs buffers.exprs && fits parts.nodes buffers.nodes
    && fits parts.values buffers.values && fits parts.widths buffers.widths

abbrev pub all_filled : Parts → Parts → Parts
all_filled parts buffers = record {
  exprs = filled parts.exprs buffers.exprs;
  nodes = filled parts.nodes buffers.nodes;
  values = filled parts.values buffers.values;
  widths = filled parts.widths buffers.widths;
}

-- Read asks question 12, then what check asks of the program in the file, then 13. Where one is answered no, all four
-- buffers stay.
unfoldable pub read_answer : List ℕ → Parts → Reading
read_answer file buffers =
    let P = program_in file in
    let parts = parts_in file in
    let q = first_no (ask 12 (file_ok file) ∷ (check_questions P ++ ask 13 (all_fit parts buffers) ∷ [])) in
    record { number = q; item = fault_item P q; buffers = cond (eqb q 0) (all_filled parts buffers) buffers }

-- ---- write

-- The number, the item and the buffer.
pub record Writing : Type 0 where
  pub number : ℕ
  pub item : ℕ
  pub buffer : List ℕ

-- Write asks what check asks, then 5 of the values, then 13. Where one is answered no, the buffer stays.
unfoldable pub write_answer : Program → List ℕ → List ℕ → Writing
write_answer P values buffer =
    let file = file_of P values in
    let values_fit = eqb (length values) P.variables in
    let q = first_no (check_questions P ++ ask 5 values_fit ∷ ask 13 (fits file buffer) ∷ []) in
    record { number = q; item = fault_item P q; buffer = cond (eqb q 0) (filled file buffer) buffer }

-- ---- sizes

-- The sizes of a file, for making buffers; 0 for each where question 12 is answered no.
unfoldable pub sizes_answer : List ℕ → Sizes
sizes_answer file =
    let zeros : Sizes = record { nodes = 0; exprs = 0; variables = 0; channels = 0 } in
    cond (file_ok file) (sizes_in file) zeros
