-- What is known of the values of expressions: in equal values of the variables they are equal, and what a note, a pass or
-- a new moment leaves known.
use Rattle.std.proofs.Common.{◌≡◌, ℕ, zero, suc, ◌+◌, ◌<◌, ◌≤◌, Bool, not, cond, eqb, List, length, get_or, set, refl, sym, ap, ◌∙◌, arith}
use Rattle.std.proofs.lemmas.Grind.{elements}
use Rattle.semantics.specs.Program.{Program, Op, expr_count}
use Rattle.semantics.specs.Program.Op.{NUMBER, VARIABLE, BINARY, UNKNOWN}
use Rattle.semantics.specs.Expressions.{value_of as rule_value, first_values, expr_values, is_true}
use Rattle.player.specs.declared.memo.Memo.{Memo}
use Rattle.player.specs.Memo.{Known, SameMoment, Unworked, Holds, Worked, WorkedNow, WorkedTo, noted, value_of}
use Rattle.player.specs.Walks.{holds_now}

-- ---- values of the variables that are read alike

module _ (exprs a b : List ℕ) (alike : (v : ℕ) → get_or a v 0 ≡ get_or b v 0) where
  same_value : (before : List ℕ) (o : Op) (p q : ℕ) → rule_value a before o p q ≡ rule_value b before o p q
  unfolding rule_value
  same_value before NUMBER p q = refl
  same_value before VARIABLE p q = alike p
  same_value before (BINARY o) p q = refl
  same_value before UNKNOWN p q = refl

  same_first : (n : ℕ) → first_values exprs a n ≡ first_values exprs b n
  unfolding first_values
  same_first zero = refl
  same_first (suc n) = grind (arith, same_first n, same_value)

  pub alike_values : expr_values exprs a ≡ expr_values exprs b
  alike_values = same_first (expr_count exprs)

-- the values of a state, and those that a memo holds
pub same_values : (exprs values : List ℕ) (memo : Memo) → Holds values memo
    → expr_values exprs memo.variables ≡ expr_values exprs values
same_values exprs values memo holds = alike_values exprs memo.variables values holds

-- conditions by a memo are those of the rules
pub same_conditions : (P : Program) (values : List ℕ) (memo : Memo) → Holds values memo
    → holds_now P memo ≡ is_true P values
same_conditions P values memo holds =
    ap {B = ℕ → Bool} (λ table e. not (eqb (get_or table e 0) 0)) (same_values P.exprs values memo holds)

-- ---- an expression worked

-- two steps that each keep the values of the variables and the moment keep them together
pub same_trans : {first second third : Memo} → SameMoment first second → SameMoment second third
    → SameMoment first third
same_trans f g = record { variables = g.variables ∙ f.variables; present = g.present ∙ f.present }

module _ (exprs : List ℕ) (memo : Memo) (e value : ℕ) (l : e < 1024) (k : Known exprs memo)
    (right : value ≡ value_of exprs memo.variables e) where
  pub known_noted : Known exprs (noted memo e value)
  known_noted = record {
    size = record {
      variables = k.size.variables;
      formulas = grind (arith, elements, k.size);
      moments = grind (arith, elements, k.size);
    };
    right = λ j u h. grind (arith, elements, k.size, k.right j);
    past = λ j u. grind (arith, elements, k.size, k.past j);
  }

-- after its operands
pub worked_after : (exprs : List ℕ) (before memo₁ memo₂ : Memo) (e value p q x y : ℕ) → e < 1024
    → Worked exprs before memo₁ p x → Worked exprs memo₁ memo₂ q y → value ≡ value_of exprs before.variables e
    → Worked exprs before (noted memo₂ e value) e value
worked_after exprs before memo₁ memo₂ e value p q x y l f g right =
    let same = same_trans f.same g.same in
    record {
      right = right;
      known = known_noted exprs memo₂ e value l g.known
          (right ∙ ap (λ (v : List ℕ). value_of exprs v e) (sym same.variables));
      same = record { variables = same.variables; present = same.present };
    }

-- ---- the expressions from left to right

module _ (exprs : List ℕ) (memo : Memo) (i last : ℕ) where
  -- those before i are worked at the present moment
  pub worked_first : i ≤ 1024 → Known exprs memo → ((j : ℕ) → j < i → WorkedNow memo j)
      → ((e : ℕ) → suc e ≡ i → last ≡ get_or memo.formulas e 0) → WorkedTo exprs memo i last
  worked_first l k moments read = record {
    known = k;
    stand = λ e u. k.right e (omega arith) (moments e u);
    right = λ e (h : suc e ≡ i). read e h ∙ k.right e (omega arith) (moments e (omega arith));
  }

  module _ (w : WorkedTo exprs memo i last) where
    -- the value of expression i is written
    pub worked_next : (value : ℕ) → i < 1024 → value ≡ value_of exprs memo.variables i
        → WorkedTo exprs (record memo { formulas = set memo.formulas i value }) (i + 1) value
    worked_next value l right = record {
      known = record {
        size = record {
          variables = w.known.size.variables;
          formulas = grind (arith, elements, w.known.size);
          moments = w.known.size.moments;
        };
        right = λ e u h. grind (arith, elements, w.known.size, w.known.right e);
        past = w.known.past;
      };
      stand = λ e u. grind (arith, elements, w.known.size, w.stand e);
      right = λ e (h : suc e ≡ i + 1). grind (arith, elements);
    }

    -- the value of one before i, read back or not
    pub value_before : (prev p : ℕ) → p < i → (0 < i → suc prev ≡ i)
        → cond (eqb p prev) last (get_or memo.formulas p 0) ≡ value_of exprs memo.variables p
    value_before prev p l at = grind (arith, w.right p, w.stand p)

-- ---- moments

-- at a moment at which nothing is worked
pub known_unworked : (exprs : List ℕ) (before memo : Memo) → Unworked before memo → Known exprs memo
known_unworked exprs before memo u = record {
  size = u.size;
  right = λ e l h. let lower = u.unknown e l in absurd (omega arith);
  past = λ e l. let lower = u.unknown e l in omega arith;
}

-- where the variables are written and read as before, what was worked stands
pub known_rewritten : (exprs : List ℕ) (memo : Memo) (variables : List ℕ) → length variables ≡ 256
    → ((v : ℕ) → get_or variables v 0 ≡ get_or memo.variables v 0) → Known exprs memo
    → Known exprs (record memo { variables = variables })
known_rewritten exprs memo variables size alike k = record {
  size = record { variables = size; formulas = k.size.formulas; moments = k.size.moments };
  right = λ e l h. k.right e l h
      ∙ ap (λ (table : List ℕ). get_or table e 0) (sym (alike_values exprs variables memo.variables alike));
  past = k.past;
}
