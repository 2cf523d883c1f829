-- What write promises.
use Rattle.std.specs.Prelude.{◌≡◌, List, ℕ}
use Rattle.semantics.specs.Program.{Program}
use Rattle.semantics.specs.FileCalls.{write_answer}

-- Write of a program and values, with a buffer lent: the rules' number and item, and every byte of the buffer as it is
-- left.
pub record WriteAnswer (P : Program) (values lent : List ℕ) (number item : ℕ) (left : List ℕ) : Type 0 where
  pub right_number : number ≡ (write_answer P values lent).number
  pub right_item : item ≡ (write_answer P values lent).item
  pub right_buffer : left ≡ (write_answer P values lent).buffer
