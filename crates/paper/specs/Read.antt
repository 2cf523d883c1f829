-- What read promises.
use Rattle.std.specs.Prelude.{◌≡◌, List, ℕ}
use Rattle.semantics.specs.File.{Parts}
use Rattle.semantics.specs.FileCalls.{read_answer}

-- The parts, or buffers, that four lists are.
abbrev pub parts_from : List ℕ → List ℕ → List ℕ → List ℕ → Parts
parts_from exprs nodes values widths = record { exprs = exprs; nodes = nodes; values = values; widths = widths }

-- Read on a file, with buffers lent: the rules' number and item, and every element of the four buffers as they are
-- left.
pub record ReadAnswer (file : List ℕ) (lent : Parts) (number item : ℕ) (left : Parts) : Type 0 where
  pub right_number : number ≡ (read_answer file lent).number
  pub right_item : item ≡ (read_answer file lent).item
  pub right_exprs : left.exprs ≡ (read_answer file lent).buffers.exprs
  pub right_nodes : left.nodes ≡ (read_answer file lent).buffers.nodes
  pub right_values : left.values ≡ (read_answer file lent).buffers.values
  pub right_widths : left.widths ≡ (read_answer file lent).buffers.widths
