-- An op at the values of two operands.
use Rattle.std.specs.Prelude.{ℕ}
use Rattle.semantics.specs.Program.{Op}
use Rattle.semantics.specs.Program.Op.{NUMBER, VARIABLE, BINARY, UNKNOWN}
use Rattle.semantics.specs.Expressions.{apply}

-- Ops without two operands give 0, which is never read.
abbrev pub applied : Op → ℕ → ℕ → ℕ
applied NUMBER x y = 0
applied VARIABLE x y = 0
applied (BINARY o) x y = apply o x y
applied UNKNOWN x y = 0
