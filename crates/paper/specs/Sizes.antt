-- What sizes promises, and what the word for C holds.
use Rattle.std.specs.Prelude.{◌≡◌, ◌+◌, ◌*◌, ◌≤◌, Bool, true, false, List, ℕ, length, Option, Some, None, ◌/◌, ◌%◌}
use Rattle.semantics.specs.File.{Sizes, Parts, exprs_back, sizes_in, file_ok}
use Rattle.semantics.specs.FileCalls.{sizes_answer}
use Rattle.paper.specs.declared.lengths.FileSizes.{FileSizes}

-- The sizes that four numbers are.
abbrev pub sizes_from : ℕ → ℕ → ℕ → ℕ → Sizes
sizes_from nodes exprs vars chans =
    record { nodes = nodes; exprs = exprs; variables = vars; channels = chans }

-- The rules' sizes of those in code.
abbrev pub sizes_in_code : FileSizes → Sizes
sizes_in_code s = sizes_from s.nodes s.exprs s.vars s.chans

-- The bytes are a file, and these are its sizes.
pub record AreSizes (file : List ℕ) (sizes : FileSizes) : Type 0 where
  pub is_file : file_ok file ≡ true
  pub right : sizes_in_code sizes ≡ sizes_in file
  pub all_bytes : length file ≡ 2 * exprs_back (sizes_in_code sizes) + 16

-- Four lists are long enough for the parts of a file with these sizes.
pub record HaveRoom (sizes : FileSizes) (lists : Parts) : Type 0 where
  pub exprs : 3 * sizes.exprs ≤ length lists.exprs
  pub nodes : 5 * sizes.nodes ≤ length lists.nodes
  pub values : sizes.vars ≤ length lists.values
  pub widths : sizes.vars ≤ length lists.widths

-- The sizes that are given, or 0 for each.
abbrev pub given : Option FileSizes → FileSizes
given (Some sizes) = sizes
given None = record { nodes = 0; exprs = 0; vars = 0; chans = 0 }

abbrev pub is_given : Option FileSizes → Bool
is_given (Some sizes) = true
is_given None = false

-- The rules' numbers of nodes, expressions, variables and channels.
pub record SizesAnswer (file : List ℕ) (nodes exprs vars chans : ℕ) : Type 0 where
  pub right_nodes : nodes ≡ (sizes_answer file).nodes
  pub right_exprs : exprs ≡ (sizes_answer file).exprs
  pub right_vars : vars ≡ (sizes_answer file).variables
  pub right_chans : chans ≡ (sizes_answer file).channels

-- A count of 16 bits each, the nodes lowest.
abbrev pub nodes_in : ℕ → ℕ
nodes_in word = word % 65536

abbrev pub exprs_in : ℕ → ℕ
exprs_in word = word / 65536 % 65536

abbrev pub vars_in : ℕ → ℕ
vars_in word = word / 4294967296 % 65536

abbrev pub chans_in : ℕ → ℕ
chans_in word = word / 281474976710656
