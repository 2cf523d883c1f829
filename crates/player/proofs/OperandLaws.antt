-- The value of one expression of an accepted program by its op, from the values of all expressions: operands stand before
-- what uses them, and a value stays when further ones are added.
use Rattle.std.proofs.Common.{◌≡◌, ℕ, zero, suc, ◌<◌, ◌≤◌, true, ltb, eqb, List, [], get_or, refl, sym, ◌∙◌, subst, inl, inr, arith}
use borrow.Author.Tests.{ltb-true}
use lib.ListN.{get_or-append}
use lib.Seq.{get_or_at}
use Rattle.semantics.specs.Program.{Op, op_at, p_at, q_at, expr_count}
use Rattle.semantics.specs.Program.Op.{NUMBER, VARIABLE, BINARY, UNKNOWN}
use Rattle.semantics.specs.Expressions.{apply, value_of as rule_value, first_values, expr_values}
use Rattle.semantics.specs.Check.{expr_words_ok}
use Rattle.semantics.proofs.Lists.Logic.{and_left, and_right, lt_or_le}
use Rattle.program.specs.declared.accepted.Accepted.{Accepted as AcceptedCode}
use Rattle.program.proofs.ValueLaws.{length-values}
use Rattle.player.specs.Memo.{HasOperands, value_of}
use Rattle.player.proofs.AcceptedLaws.{is_accepted, variables_fit}

module _ (exprs values : List ℕ) where
  abbrev ByRule : ℕ → ℕ → Op → Type 0
  ByRule n e o =
      get_or (first_values exprs values n) e 0
      ≡ rule_value values (first_values exprs values e) o (p_at exprs e) (q_at exprs e)

  from_first : (n e : ℕ) → e < n → ByRule n e (op_at exprs e)
  unfolding first_values
  from_first zero e l = absurd (omega arith)
  from_first (suc n) e l =
      let before = first_values exprs values n in
      let size = length-values exprs values n in
      elim (lt_or_le e n) [
        | inl u ↦ get_or-append before _ 0 e (omega arith) ∙ from_first n e u
        | inr u ↦
            let same : n ≡ e = omega arith in
            subst (λ (k : ℕ). ByRule (suc n) k (op_at exprs k)) same (get_or_at before _ [] 0 n size)
      ]

  -- an operand's value is the same among all as among the first
  operand : (e p : ℕ) → e < expr_count exprs → p < e
      → get_or (first_values exprs values e) p 0 ≡ value_of exprs values p
  operand e p l u = from_first e p u ∙ sym (from_first (expr_count exprs) p (omega arith))

-- ---- what question 2 says of an expression

module _ (program : AcceptedCode) where
  abbrev exprs : List ℕ
  exprs = program.lists.exprs.now

  pub exprs_fit : expr_count exprs ≤ 1024
  exprs_fit = (is_accepted program).sizes.exprs_fit

  words_ok : (e : ℕ) → e < expr_count exprs → (o : Op) → op_at exprs e ≡ o
      → expr_words_ok program.lists.vars e o (p_at exprs e) (q_at exprs e) ≡ true
  words_ok e l o h =
      subst (λ (k : Op). expr_words_ok program.lists.vars e k (p_at exprs e) (q_at exprs e) ≡ true) h
      ((is_accepted program).exprs_ok e l)

  -- a variable has its place in a memo
  pub variable_place : (e : ℕ) → e < expr_count exprs → op_at exprs e ≡ VARIABLE → p_at exprs e < 256
  unfolding expr_words_ok
  variable_place e l h =
      let word = p_at exprs e in
      let vars = program.lists.vars in
      let within = ltb-true word vars (and_left (ltb word vars) (eqb (q_at exprs e) 0) (words_ok e l VARIABLE h)) in
      let fit = variables_fit program in
      omega arith

  -- operands stand before what uses them
  below : (e : ℕ) → e < expr_count exprs → HasOperands exprs e → (p_at exprs e < e) × (q_at exprs e < e)
  unfolding expr_words_ok
  below e l two =
      let x = p_at exprs e in
      let y = q_at exprs e in
      let ok = words_ok e l (BINARY two.0) two.1 in
      (ltb-true x e (and_left (ltb x e) (ltb y e) ok), ltb-true y e (and_right (ltb x e) (ltb y e) ok))

  pub first_below : (e : ℕ) → e < expr_count exprs → HasOperands exprs e → p_at exprs e < e
  first_below e l two = (below e l two).0

  pub second_below : (e : ℕ) → e < expr_count exprs → HasOperands exprs e → q_at exprs e < e
  second_below e l two = (below e l two).1

  -- the value of an expression from the values of all
  pub value_by_rule : (values : List ℕ) (e : ℕ) → e < expr_count exprs
      → value_of exprs values e ≡ rule_value values (expr_values exprs values) (op_at exprs e) (p_at exprs e) (q_at exprs e)
  unfolding rule_value
  value_by_rule values e l = from_first exprs values (expr_count exprs) e l ∙ pick (op_at exprs e) refl
    where
      pick : (o : Op) → op_at exprs e ≡ o
          → rule_value values (first_values exprs values e) o (p_at exprs e) (q_at exprs e)
          ≡ rule_value values (expr_values exprs values) o (p_at exprs e) (q_at exprs e)
      pick NUMBER h = refl
      pick VARIABLE h = refl
      pick (BINARY o) h =
          let (lp, lq) = below e l (o, h) in
          λ i. apply o (operand exprs values e (p_at exprs e) l lp i) (operand exprs values e (q_at exprs e) l lq i)
      pick UNKNOWN h = refl

pub ruleset expression_laws = (exprs_fit, variable_place, first_below, second_below, value_by_rule)
