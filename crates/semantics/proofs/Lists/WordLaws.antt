-- Lists of words, the numbers below 65,536: where the numbers of an expression list and the values of the variables are
-- words, so is the value of every expression.
use mathlib.Core.Path.{◌≡◌}
use mathlib.Core.Bool.{Bool, true, false}
use mathlib.Core.List.{List, [], ◌∷◌, ◌++◌}
use Prim.Native.Nat.{ℕ, zero, suc, ◌+◌, ◌-◌, ◌*◌, ◌<◌}
use native.Mathlib.Nat.{mod-lt}
use native.Mathlib.Omega.{arith}
use lib.Dec.{eqb, ltb}
use lib.Bits.{and_le_l}
use lib.ListN.{get_or, set}
use borrow.Author.Tests.{ltb-true}
use Rattle.semantics.specs.Numbers.{every}
use Rattle.semantics.specs.Program.{Binary, Op, expr_count, op_at, p_at, q_at}
use Rattle.semantics.specs.Program.Binary.{ADD, SUB, MUL, AND, EQUAL, BELOW}
use Rattle.semantics.specs.Program.Op.{NUMBER, VARIABLE, BINARY, UNKNOWN}
use Rattle.semantics.specs.Expressions.{bit, apply, value_of, first_values, expr_values}
use Rattle.semantics.specs.Plain.{are_words}
use Rattle.semantics.proofs.Lists.Logic.{and_left, and_right}

abbrev pub Word : ℕ → Type 0
Word w = w < 65536

-- what is read of the list, in it or past its end, is a word
abbrev pub Words : List ℕ → Type 0
Words ws = (i : ℕ) → Word (get_or ws i 0)

pub words : (ws : List ℕ) → are_words ws ≡ true → Words ws
unfolding are_words every
words [] h i = omega arith
words (w ∷ ws) h zero = ltb-true w 65536 (and_left _ _ h)
words (w ∷ ws) h (suc i) = words ws (and_right (ltb w 65536) _ h) i

pub set_words : (ws : List ℕ) (j w : ℕ) → Words ws → Word w → Words (set ws j w)
set_words [] j w h l i = h i
set_words (x ∷ ws) zero w h l zero = l
set_words (x ∷ ws) zero w h l (suc i) = h (suc i)
set_words (x ∷ ws) (suc j) w h l zero = h 0
set_words (x ∷ ws) (suc j) w h l (suc i) = set_words ws j w (λ k. h (suc k)) l i

append-word : (ws : List ℕ) (w : ℕ) → Words ws → Word w → Words (ws ++ w ∷ [])
append-word [] w h l zero = l
append-word [] w h l (suc i) = h i
append-word (x ∷ ws) w h l zero = h 0
append-word (x ∷ ws) w h l (suc i) = append-word ws w (λ k. h (suc k)) l i

-- ---- expressions

bit_word : (b : Bool) → Word (bit b)
bit_word true = omega arith
bit_word false = omega arith

apply_word : (o : Binary) (x y : ℕ) → Word x → Word (apply o x y)
unfolding apply
apply_word ADD x y l = mod-lt (x + y) (omega arith)
apply_word SUB x y l = mod-lt (x + 65536 - y) (omega arith)
apply_word MUL x y l = mod-lt (x * y) (omega arith)
apply_word AND x y l = omega (arith, and_le_l x y)
apply_word EQUAL x y l = bit_word (eqb x y)
apply_word BELOW x y l = bit_word (ltb x y)

value_of-word : (values before : List ℕ) (o : Op) (p q : ℕ) → Words values → Words before → Word p
    → Word (value_of values before o p q)
unfolding value_of
value_of-word values before NUMBER p q v b l = l
value_of-word values before VARIABLE p q v b l = v p
value_of-word values before (BINARY o) p q v b l = apply_word o (get_or before p 0) (get_or before q 0) (b p)
value_of-word values before UNKNOWN p q v b l = omega arith

module _ (exprs values : List ℕ) (e : Words exprs) (v : Words values) where
  first_words : (n : ℕ) → Words (first_values exprs values n)
  unfolding first_values
  first_words zero = λ i. omega arith
  first_words (suc n) =
      let before = first_values exprs values n in
      append-word before _ (first_words n)
      (value_of-word values before (op_at exprs n) (p_at exprs n) (q_at exprs n) v (first_words n) (e (3 * n + 1)))

  pub table_words : Words (expr_values exprs values)
  table_words = first_words (expr_count exprs)
