-- Laws of values: there is one for each expression, and that of an expression with two operands is its op at their
-- values. And a product of two words fits twice their bits.
use Rattle.std.proofs.Common.{◌≡◌, ℕ, zero, suc, ◌+◌, ◌*◌, ◌^◌, ◌<◌, ◌≤◌, Bool, true, false, cond, eqb, List, length, get_or, refl, lt_of_le_of_lt, le_of_lt, mul-le-mul_left, mul-lt-mul_of_pos_right, add-one, arith, length-append, pow_pos, pow-add, ne_eqb}
use mathlib.Core.Path.{subst⁻¹}
use Rattle.semantics.specs.Program.{Op, op_of}
use Rattle.semantics.specs.Program.Binary.{ADD, SUB, MUL, AND, EQUAL, BELOW}
use Rattle.semantics.specs.Program.Op.{BINARY, UNKNOWN}
use Rattle.semantics.specs.Expressions.{value_of, first_values}
use Rattle.program.specs.Values.{applied}

-- The product of two numbers of k bits has at most k + k bits.
pub product_fits : (k : ℕ) {x y : ℕ} → x < 2 ^ k → y < 2 ^ k → x * y < 2 ^ (k + k)
product_fits k {x} {y} hx hy =
    subst⁻¹ (λ (n : ℕ). x * y < n) (pow-add 2 k k)
    (lt_of_le_of_lt (mul-le-mul_left x (le_of_lt hy)) (mul-lt-mul_of_pos_right hx (pow_pos k)))

module _ (exprs values : List ℕ) where
  pub length-values : (n : ℕ) → length (first_values exprs values n) ≡ n
  unfolding first_values
  length-values zero = refl
  length-values (suc n) = simp (length-append, length-values n) (add-one n)

-- ---- ops by their numbers

-- a number that stands for no op with two operands
pub no_operands : (w x y : ℕ) → (2 ≤ w → w ≤ 7 → ⊥) → applied (op_of w) x y ≡ 0
unfolding op_of
no_operands zero x y h = refl
no_operands (suc zero) x y h = refl
no_operands (suc (suc n)) x y h =
    let w = suc (suc n) in
    let other : (m : ℕ) → m ≤ 7 → eqb w m ≡ false = λ m l. ne_eqb w m (λ e. h (omega arith) (omega (arith, e, l))) in
    rw (other 0 (omega arith), other 1 (omega arith), other 2 (omega arith), other 3 (omega arith))
    (rw (other 4 (omega arith), other 5 (omega arith), other 6 (omega arith), other 7 (omega arith)) refl)

module _ (values before : List ℕ) (p q : ℕ) where
  -- the value of an expression with that op is the op at its operands' values
  abbrev ByOperands : Op → Type 0
  ByOperands o = applied o (get_or before p 0) (get_or before q 0) ≡ value_of values before o p q

  either : (b : Bool) (o o' : Op) → ByOperands o → ByOperands o' → ByOperands (cond b o o')
  either true o o' h h' = h
  either false o o' h h' = h'

  pub by_operands : (w : ℕ) → 2 ≤ w → ByOperands (op_of w)
  unfolding op_of value_of
  by_operands w l =
      rw (ne_eqb w 0 (λ e. omega arith), ne_eqb w 1 (λ e. omega arith))
      (either (eqb w 2) (BINARY ADD) _ refl (either (eqb w 3) (BINARY SUB) _ refl
      (either (eqb w 4) (BINARY MUL) _ refl (either (eqb w 5) (BINARY AND) _ refl
      (either (eqb w 6) (BINARY EQUAL) _ refl (either (eqb w 7) (BINARY BELOW) UNKNOWN refl refl))))))
