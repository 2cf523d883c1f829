-- The value of every expression in given values of the variables ("Program lists"), left to right.
use Rattle.std.specs.Prelude.{Bool, true, false, not, List, [], ◌∷◌, ◌++◌, ℕ, zero, suc, ◌+◌, ◌-◌, ◌*◌, ◌%◌, eqb, ltb, get_or}
use Rattle.std.specs.Int.Bits.{bit_and}
use Rattle.semantics.specs.Program.{Program, Binary, Op, expr_count, op_at, p_at, q_at}
use Rattle.semantics.specs.Program.Binary.{ADD, SUB, MUL, AND, EQUAL, BELOW}
use Rattle.semantics.specs.Program.Op.{NUMBER, VARIABLE, BINARY, UNKNOWN}

-- A comparison gives 1 where it holds, else 0.
abbrev pub bit : Bool → ℕ
bit true = 1
bit false = 0

-- Arithmetic is modulo 65,536.
unfoldable pub apply : Binary → ℕ → ℕ → ℕ
apply ADD x y = (x + y) % 65536
apply SUB x y = (x + 65536 - y) % 65536
apply MUL x y = (x * y) % 65536
apply AND x y = bit_and x y
apply EQUAL x y = bit (eqb x y)
apply BELOW x y = bit (ltb x y)

-- One expression, from the variables' values and the values of the expressions before it. An unknown op has no value:
-- question 2 refuses it, and 0 is never read.
unfoldable pub value_of : List ℕ → List ℕ → Op → ℕ → ℕ → ℕ
value_of values before NUMBER p q = p
value_of values before VARIABLE p q = get_or values p 0
value_of values before (BINARY o) p q = apply o (get_or before p 0) (get_or before q 0)
value_of values before UNKNOWN p q = 0

-- The values of the first n expressions. Operands stand before what uses them, so one pass is enough.
unfoldable pub first_values : List ℕ → List ℕ → ℕ → List ℕ
first_values exprs values zero = []
first_values exprs values (suc i) =
    let before = first_values exprs values i in
    before ++ value_of values before (op_at exprs i) (p_at exprs i) (q_at exprs i) ∷ []

abbrev pub expr_values : List ℕ → List ℕ → List ℕ
expr_values exprs values = first_values exprs values (expr_count exprs)

-- A condition holds where its expression has any value but 0.
abbrev pub is_true : Program → List ℕ → ℕ → Bool
is_true P values = let table = expr_values P.exprs values in λ e. not (eqb (get_or table e 0) 0)
