-- Questions 1 to 4 of "Questions in order", with the limits of "Program lists", and question 11 of request 1: which
-- programs are accepted, and from request 2 which item comes with a number.
use Rattle.std.specs.Prelude.{Bool, true, false, cond, ◌&&◌, List, [], ◌∷◌, ℕ, suc, ◌%◌, eqb, ltb, leb, length}
use Rattle.std.proofs.Math.Option.{Option, none, some}
use Rattle.semantics.specs.Numbers.{below, every}
use Rattle.semantics.specs.Program.{Program, Op, Kind, expr_count, op_at, p_at, q_at, node_count, kind_at, parent_at}
use Rattle.semantics.specs.Program.{end_at, a_at, b_at, is_leaf}
use Rattle.semantics.specs.Program.Op.{NUMBER, VARIABLE, BINARY, UNKNOWN as UNKNOWN-OP}
use Rattle.semantics.specs.Program.Kind.{SEQ, PAR, IF, WHL, LEAF, UNKNOWN}
use Rattle.semantics.specs.Program.Leaf.{ASG, IN, OUT, DLY}
use Rattle.semantics.specs.Parents.{parent, depth, children}
use Rattle.semantics.specs.Questions.{Question, ask, first_no, lowest_fault}
use Rattle.semantics.specs.Widths.{width_at, width_ok, widths_ok}

-- ---- question 1
-- Both lists are whole records, and N, E, V and C are within their limits.
unfoldable pub sizes_ok : Program → Bool
sizes_ok P =
    eqb (length P.exprs % 3) 0 && eqb (length P.nodes % 5) 0
    && leb 1 (node_count P.nodes) && leb (node_count P.nodes) 1024
    && leb (expr_count P.exprs) 1024 && leb P.variables 256 && leb P.channels 256

-- ---- question 2
-- What expression i of an op may have for p and q: a number and a variable leave q unused, and an operation takes two
-- expressions before i.
unfoldable pub expr_words_ok : ℕ → ℕ → Op → ℕ → ℕ → Bool
expr_words_ok variables i NUMBER p q = eqb q 0
expr_words_ok variables i VARIABLE p q = ltb p variables && eqb q 0
expr_words_ok variables i (BINARY o) p q = ltb p i && ltb q i
expr_words_ok variables i UNKNOWN-OP p q = false

abbrev pub expr_ok : Program → ℕ → Bool
expr_ok P i = expr_words_ok P.variables i (op_at P.exprs i) (p_at P.exprs i) (q_at P.exprs i)

-- ---- question 3, from the node's kind to its unused words
unfoldable pub kind_ok : Kind → Bool
kind_ok SEQ = true
kind_ok PAR = true
kind_ok IF = true
kind_ok WHL = true
kind_ok (LEAF l) = true
kind_ok UNKNOWN = false

-- A node without a parent, as node 0 is, has end N; any other ends at most where its parent does.
unfoldable pub end_within : List ℕ → ℕ → Option ℕ → Bool
end_within nodes i none = eqb (end_at nodes i) (node_count nodes)
end_within nodes i (some h) = leb (end_at nodes i) (end_at nodes h)

-- A node ends after itself, within its parent, and a leaf one past itself.
unfoldable pub end_ok : List ℕ → ℕ → Bool
end_ok nodes i =
    leb (suc i) (end_at nodes i) && end_within nodes i (parent nodes i)
    && cond (is_leaf (kind_at nodes i)) (eqb (end_at nodes i) (suc i)) true

-- Node 0 alone may have no parent, and its parent word is 65,535; any other names its parent.
unfoldable pub parent_ok : ℕ → ℕ → Option ℕ → Bool
parent_ok i word none = eqb i 0 && eqb word 65535
parent_ok i word (some h) = eqb word h

-- The number of children that each kind may have.
unfoldable pub children_ok : Kind → ℕ → Bool
children_ok SEQ n = leb 1 n
children_ok PAR n = leb 2 n
children_ok IF n = leb 1 n && leb n 2
children_ok WHL n = eqb n 1
children_ok (LEAF l) n = eqb n 0
children_ok UNKNOWN n = false

-- Of a and b, those that a kind does not use are 0.
unfoldable pub unused_ok : Kind → ℕ → ℕ → Bool
unused_ok SEQ a b = eqb a 0 && eqb b 0
unused_ok PAR a b = eqb a 0 && eqb b 0
unused_ok IF a b = eqb b 0
unused_ok WHL a b = eqb b 0
unused_ok (LEAF ASG) a b = true
unused_ok (LEAF IN) a b = true
unused_ok (LEAF OUT) a b = true
unused_ok (LEAF DLY) a b = eqb a 0 && eqb b 0
unused_ok UNKNOWN a b = false

unfoldable pub node_ok : List ℕ → ℕ → Bool
node_ok nodes i =
    kind_ok (kind_at nodes i) && end_ok nodes i && parent_ok i (parent_at nodes i) (parent nodes i)
    && leb (depth nodes i) 32 && children_ok (kind_at nodes i) (length (children nodes i))
    && unused_ok (kind_at nodes i) (a_at nodes i) (b_at nodes i)

-- ---- question 4
-- What a and b stand for in each kind is within V, C or E: an ASG has a variable and an expression, an IN a channel
-- and a variable, an OUT a channel and an expression, an IF and a WHL their condition.
unfoldable pub reference_words_ok : Program → Kind → ℕ → ℕ → Bool
reference_words_ok P SEQ a b = true
reference_words_ok P PAR a b = true
reference_words_ok P IF a b = ltb a (expr_count P.exprs)
reference_words_ok P WHL a b = ltb a (expr_count P.exprs)
reference_words_ok P (LEAF ASG) a b = ltb a P.variables && ltb b (expr_count P.exprs)
reference_words_ok P (LEAF IN) a b = ltb a P.channels && ltb b P.variables
reference_words_ok P (LEAF OUT) a b = ltb a P.channels && ltb b (expr_count P.exprs)
reference_words_ok P (LEAF DLY) a b = true
reference_words_ok P UNKNOWN a b = true

abbrev pub references_ok : Program → ℕ → Bool
references_ok P i = reference_words_ok P (kind_at P.nodes i) (a_at P.nodes i) (b_at P.nodes i)

-- ---- the call check
abbrev pub check_questions : Program → List Question
check_questions P =
    ask 1 (sizes_ok P)
    ∷ ask 2 (every (expr_ok P) (below (expr_count P.exprs)))
    ∷ ask 3 (every (node_ok P.nodes) (below (node_count P.nodes)))
    ∷ ask 4 (every (references_ok P) (below (node_count P.nodes)))
    ∷ ask 11 (widths_ok P)
    ∷ []

-- The number that check gives.
unfoldable pub check_number : Program → ℕ
check_number P = first_no (check_questions P)

-- The item that comes with a number: with 2 the lowest faulty expression, with 3 and 4 the lowest faulty node, and with
-- 11, where there is a width for each variable, the lowest variable whose width is bad. With anything else it is 0.
unfoldable pub fault_item : Program → ℕ → ℕ
fault_item P number =
    let bad_width = lowest_fault (λ v. width_ok (width_at P.widths v)) P.variables in
    cond (eqb number 2) (lowest_fault (expr_ok P) (expr_count P.exprs))
    (cond (eqb number 3) (lowest_fault (node_ok P.nodes) (node_count P.nodes))
    (cond (eqb number 4) (lowest_fault (references_ok P) (node_count P.nodes))
    (cond (eqb number 11) (cond (eqb (length P.widths) P.variables) bad_width 0)
    0)))
