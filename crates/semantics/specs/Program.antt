-- The program, from the section "Program lists" of the rules document: flat lists of words, read as records of three
-- words (expressions) and of five words (nodes). Request 1 adds the list of widths.
use Rattle.std.specs.Prelude.{Bool, true, false, cond, List, ℕ, ◌+◌, ◌*◌, ◌/◌, eqb, length, get_or}

-- The three lists, V (the number of variables) and C (the number of channels).
pub record Program : Type 0 where
  pub exprs : List ℕ
  pub nodes : List ℕ
  pub widths : List ℕ
  pub variables : ℕ
  pub channels : ℕ

-- ---- the expression list: op, p, q

-- E, the number of expressions
abbrev pub expr_count : List ℕ → ℕ
expr_count exprs = length exprs / 3

-- The operations on two operand expressions, ops 2 to 7.
pub data Binary : Type 0 where
  ADD SUB MUL AND EQUAL BELOW : Binary

pub data Op : Type 0 where
  NUMBER VARIABLE : Op
  BINARY : Binary → Op
  UNKNOWN : Op

-- The op of an expression's first word.
unfoldable pub op_of : ℕ → Op
op_of w =
    cond (eqb w 0) NUMBER
    (cond (eqb w 1) VARIABLE
    (cond (eqb w 2) (BINARY ADD)
    (cond (eqb w 3) (BINARY SUB)
    (cond (eqb w 4) (BINARY MUL)
    (cond (eqb w 5) (BINARY AND)
    (cond (eqb w 6) (BINARY EQUAL)
    (cond (eqb w 7) (BINARY BELOW) UNKNOWN)))))))

abbrev pub op_at : List ℕ → ℕ → Op
op_at exprs i = op_of (get_or exprs (3 * i) 0)

abbrev pub p_at : List ℕ → ℕ → ℕ
p_at exprs i = get_or exprs (3 * i + 1) 0

abbrev pub q_at : List ℕ → ℕ → ℕ
q_at exprs i = get_or exprs (3 * i + 2) 0

-- ---- the node list: kind, parent, end, a, b

-- N, the number of nodes
abbrev pub node_count : List ℕ → ℕ
node_count nodes = length nodes / 5

-- The kinds with no child: the atomic statements.
pub data Leaf : Type 0 where
  ASG IN OUT DLY : Leaf

pub data Kind : Type 0 where
  SEQ PAR IF WHL : Kind
  LEAF : Leaf → Kind
  UNKNOWN : Kind

-- The kind of a node's first word.
unfoldable pub kind_of : ℕ → Kind
kind_of w =
    cond (eqb w 1) SEQ
    (cond (eqb w 2) PAR
    (cond (eqb w 3) (LEAF ASG)
    (cond (eqb w 4) (LEAF IN)
    (cond (eqb w 5) (LEAF OUT)
    (cond (eqb w 6) IF
    (cond (eqb w 7) WHL
    (cond (eqb w 8) (LEAF DLY) UNKNOWN)))))))

abbrev pub kind_at : List ℕ → ℕ → Kind
kind_at nodes i = kind_of (get_or nodes (5 * i) 0)

-- The parent word, which question 3 compares with the parent as defined.
abbrev pub parent_at : List ℕ → ℕ → ℕ
parent_at nodes i = get_or nodes (5 * i + 1) 0

abbrev pub end_at : List ℕ → ℕ → ℕ
end_at nodes i = get_or nodes (5 * i + 2) 0

abbrev pub a_at : List ℕ → ℕ → ℕ
a_at nodes i = get_or nodes (5 * i + 3) 0

abbrev pub b_at : List ℕ → ℕ → ℕ
b_at nodes i = get_or nodes (5 * i + 4) 0

-- A test of a leaf's kind; no other node passes it.
abbrev pub leaf_test : (Leaf → Bool) → Kind → Bool
leaf_test f SEQ = false
leaf_test f PAR = false
leaf_test f IF = false
leaf_test f WHL = false
leaf_test f (LEAF l) = f l
leaf_test f UNKNOWN = false

abbrev pub is_leaf : Kind → Bool
is_leaf = leaf_test (λ l. true)

abbrev pub is_par : Kind → Bool
is_par SEQ = false
is_par PAR = true
is_par IF = false
is_par WHL = false
is_par (LEAF l) = false
is_par UNKNOWN = false
