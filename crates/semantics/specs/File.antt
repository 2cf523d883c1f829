-- A paper as a file, from request 3: four parts and a trailer. Question 12 asks whether bytes are such a file.
use Rattle.std.specs.Prelude.{Bool, ◌&&◌, List, [], ◌∷◌, ◌++◌, ℕ, ◌+◌, ◌-◌, ◌*◌, ◌/◌, ◌%◌, eqb, leb, length, get_or, take, drop}
use Rattle.semantics.specs.Program.{Program, expr_count, node_count}
use Rattle.semantics.specs.Bytes.{bytes_of, words_of}

-- The sizes of a paper: N, E, V and C, in the order of the trailer.
pub record Sizes : Type 0 where
  pub nodes : ℕ
  pub exprs : ℕ
  pub variables : ℕ
  pub channels : ℕ

-- The four parts in the order of the file: lists of words, or the buffers that are lent for them.
pub record Parts : Type 0 where
  pub exprs : List ℕ
  pub nodes : List ℕ
  pub values : List ℕ
  pub widths : List ℕ

-- ---- the trailer

-- The distance of each part: how many words there are from its first word up to the trailer. The last part is the
-- widths, one for each variable; before them stand the values, as many; then nodes of five words, and expressions of
-- three.
abbrev pub widths_back : Sizes → ℕ
widths_back s = s.variables

abbrev pub values_back : Sizes → ℕ
values_back s = s.variables + widths_back s

abbrev pub nodes_back : Sizes → ℕ
nodes_back s = 5 * s.nodes + values_back s

abbrev pub exprs_back : Sizes → ℕ
exprs_back s = 3 * s.exprs + nodes_back s

-- The eight words of the trailer.
abbrev pub trailer : Sizes → List ℕ
trailer s =
    s.nodes ∷ s.exprs ∷ s.variables ∷ s.channels
    ∷ exprs_back s ∷ nodes_back s ∷ values_back s ∷ widths_back s ∷ []

-- ---- the file of a program and its values

abbrev pub sizes_of : Program → Sizes
sizes_of P = record {
  nodes = node_count P.nodes;
  exprs = expr_count P.exprs;
  variables = P.variables;
  channels = P.channels;
}

abbrev pub parts_of : Program → List ℕ → Parts
parts_of P values = record { exprs = P.exprs; nodes = P.nodes; values = values; widths = P.widths }

-- The parts in their order with no gap, and the trailer.
unfoldable pub file_of : Program → List ℕ → List ℕ
file_of P values = bytes_of (P.exprs ++ P.nodes ++ values ++ P.widths ++ trailer (sizes_of P))

-- ---- what bytes say as a file

-- The last eight words.
abbrev pub trailer_in : List ℕ → List ℕ
trailer_in file = drop (length file / 2 - 8) (words_of file)

abbrev pub sizes_in : List ℕ → Sizes
sizes_in file =
    let words = trailer_in file in
    record { nodes = get_or words 0 0; exprs = get_or words 1 0; variables = get_or words 2 0; channels = get_or words 3 0 }

-- The parts stand one after the other from the first word on.
abbrev pub parts_at : Sizes → List ℕ → Parts
parts_at s words =
    let after_exprs = drop (3 * s.exprs) words in
    let after_nodes = drop (5 * s.nodes) after_exprs in
    let after_values = drop s.variables after_nodes in
    record {
      exprs = take (3 * s.exprs) words;
      nodes = take (5 * s.nodes) after_exprs;
      values = take s.variables after_nodes;
      widths = take s.variables after_values;
    }

abbrev pub parts_in : List ℕ → Parts
parts_in file = parts_at (sizes_in file) (words_of file)

-- The program of sizes and parts; the values are no part of it.
abbrev pub program_from : Sizes → Parts → Program
program_from s parts = record {
  exprs = parts.exprs;
  nodes = parts.nodes;
  widths = parts.widths;
  variables = s.variables;
  channels = s.channels;
}

abbrev pub program_in : List ℕ → Program
program_in file = program_from (sizes_in file) (parts_in file)

-- ---- question 12

-- The words of a trailer have the distances that these sizes require.
abbrev pub distances_ok : Sizes → List ℕ → Bool
distances_ok s words =
    eqb (get_or words 4 0) (exprs_back s) && eqb (get_or words 5 0) (nodes_back s)
    && eqb (get_or words 6 0) (values_back s) && eqb (get_or words 7 0) (widths_back s)

-- The bytes are whole words and have a trailer, its distances are right, and so is their number: the parts and the
-- trailer's 16 bytes, and nothing else.
unfoldable pub file_ok : List ℕ → Bool
file_ok file =
    eqb (length file % 2) 0 && leb 16 (length file) && distances_ok (sizes_in file) (trailer_in file)
    && eqb (length file) (2 * exprs_back (sizes_in file) + 16)
