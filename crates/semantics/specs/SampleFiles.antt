-- The files of the samples of request 3, byte by byte.
use Rattle.std.specs.Prelude.{List, [], ◌∷◌, ◌++◌, ℕ}

-- the file of `delay`: a node; N, E, V, C; the distances
abbrev pub delay_file : List ℕ
delay_file =
    (8 ∷ 0 ∷ 255 ∷ 255 ∷ 1 ∷ 0 ∷ 0 ∷ 0 ∷ 0 ∷ 0 ∷ [])
    ++ (1 ∷ 0 ∷ 0 ∷ 0 ∷ 0 ∷ 0 ∷ 0 ∷ 0 ∷ []) ++ (5 ∷ 0 ∷ 5 ∷ 0 ∷ 0 ∷ 0 ∷ 0 ∷ 0 ∷ [])

-- the file of `one_bit_input` with the values 300 and 5, of which the first is too wide: its parts
abbrev pub input_exprs : List ℕ
input_exprs = 1 ∷ 0 ∷ 1 ∷ 0 ∷ 0 ∷ 0 ∷ 0 ∷ 0 ∷ 4 ∷ 0 ∷ 0 ∷ 0 ∷ 2 ∷ 0 ∷ 0 ∷ 0 ∷ 1 ∷ 0 ∷ []

abbrev pub input_nodes : List ℕ
input_nodes =
    (2 ∷ 0 ∷ 255 ∷ 255 ∷ 4 ∷ 0 ∷ 0 ∷ 0 ∷ 0 ∷ 0 ∷ []) ++ (5 ∷ 0 ∷ 0 ∷ 0 ∷ 2 ∷ 0 ∷ 0 ∷ 0 ∷ 2 ∷ 0 ∷ [])
    ++ (4 ∷ 0 ∷ 0 ∷ 0 ∷ 3 ∷ 0 ∷ 0 ∷ 0 ∷ 0 ∷ 0 ∷ []) ++ (3 ∷ 0 ∷ 0 ∷ 0 ∷ 4 ∷ 0 ∷ 1 ∷ 0 ∷ 2 ∷ 0 ∷ [])

abbrev pub input_values : List ℕ
input_values = 44 ∷ 1 ∷ 5 ∷ 0 ∷ []

abbrev pub input_widths : List ℕ
input_widths = 1 ∷ 0 ∷ 16 ∷ 0 ∷ []

-- and its trailer, with the low byte of the values' distance as given
abbrev pub input_trailer : ℕ → List ℕ
input_trailer distance =
    (4 ∷ 0 ∷ 3 ∷ 0 ∷ 2 ∷ 0 ∷ 1 ∷ 0 ∷ []) ++ (33 ∷ 0 ∷ 24 ∷ 0 ∷ distance ∷ 0 ∷ 2 ∷ 0 ∷ [])

abbrev pub input_file : List ℕ
input_file = input_exprs ++ input_nodes ++ input_values ++ input_widths ++ input_trailer 4

-- with an op 9 in its last two expressions
abbrev pub faulty_file : List ℕ
faulty_file =
    (1 ∷ 0 ∷ 1 ∷ 0 ∷ 0 ∷ 0 ∷ 9 ∷ 0 ∷ 4 ∷ 0 ∷ 0 ∷ 0 ∷ 9 ∷ 0 ∷ 0 ∷ 0 ∷ 1 ∷ 0 ∷ [])
    ++ input_nodes ++ input_values ++ input_widths ++ input_trailer 4
