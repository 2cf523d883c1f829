-- What completes and what waits in a cycle and what is stored, steps 1 and 2 of a cycle in "The plain machine", with
-- questions 8 and 9.
use Rattle.std.specs.Prelude.{Bool, true, false, cond, not, ◌&&◌, ◌||◌, List, [], ◌∷◌, ℕ, eqb, leb, length, get_or, set}
use Rattle.std.proofs.Math.Option.{Option, none, some}
use Rattle.semantics.specs.Numbers.{below, every, filter}
use Rattle.semantics.specs.Program.{Program, Leaf, kind_at, a_at, b_at, leaf_test}
use Rattle.semantics.specs.Program.Leaf.{ASG, IN, OUT, DLY}
use Rattle.semantics.specs.State.{active}
use Rattle.semantics.specs.Widths.{truncated}

abbrev pub is_asg : Leaf → Bool
is_asg ASG = true
is_asg IN = false
is_asg OUT = false
is_asg DLY = false

abbrev pub is_in : Leaf → Bool
is_in ASG = false
is_in IN = true
is_in OUT = false
is_in DLY = false

abbrev pub is_out : Leaf → Bool
is_out ASG = false
is_out IN = false
is_out OUT = true
is_out DLY = false

-- The expression of the first of these OUT.
abbrev pub sent_by : List ℕ → List ℕ → Option ℕ
sent_by nodes [] = none
sent_by nodes (j ∷ js) = some (b_at nodes j)

-- Variable v gets the value that the table has for an expression, as far as its width goes. Where there is no
-- expression, nothing is stored.
abbrev pub store_value : List ℕ → List ℕ → List ℕ → ℕ → Option ℕ → List ℕ
store_value widths table values v none = values
store_value widths table values v (some e) = set values v (truncated widths v (get_or table e 0))

abbrev pub is_empty : List ℕ → Bool
is_empty xs = eqb (length xs) 0

module _ (P : Program) (marks : List ℕ) where
  -- Node i is a leaf of that kind.
  abbrev pub is_kind : (Leaf → Bool) → ℕ → Bool
  is_kind f i = leaf_test f (kind_at P.nodes i)

  -- The marked IN, or the marked OUT, on a channel.
  abbrev pub marked_on : (Leaf → Bool) → ℕ → List ℕ
  marked_on f channel = filter (λ j. is_kind f j && eqb (a_at P.nodes j) channel) (active marks)

  -- A marked IN or OUT waits while its channel has no partner for it. Every other marked leaf completes.
  unfoldable pub waits : ℕ → Bool
  waits i =
      is_kind is_in i && is_empty (marked_on is_out (a_at P.nodes i))
      || is_kind is_out i && is_empty (marked_on is_in (a_at P.nodes i))

  -- ---- question 8: at most one IN and one OUT for each channel
  unfoldable pub channels_free : Bool
  channels_free =
      every (λ c. leb (length (marked_on is_in c)) 1 && leb (length (marked_on is_out c)) 1) (below P.channels)

  -- Of the leaves that complete, ASG and IN store: an ASG to variable a, an IN to variable b.
  abbrev pub stores : ℕ → Bool
  stores i = not (waits i) && (is_kind is_asg i || is_kind is_in i)

  abbrev pub target : ℕ → ℕ
  target i = cond (is_kind is_asg i) (a_at P.nodes i) (b_at P.nodes i)

  -- The expression whose value is stored: an ASG's own, for an IN that of the OUT marked on its channel. An IN alone
  -- has none.
  abbrev pub source : ℕ → Option ℕ
  source i = cond (is_kind is_asg i) (some (b_at P.nodes i)) (sent_by P.nodes (marked_on is_out (a_at P.nodes i)))

  -- ---- question 9: at most one store to each variable, whatever the values
  unfoldable pub targets_apart : Bool
  targets_apart =
      every (λ v. leb (length (filter (λ i. stores i && eqb (target i) v) (active marks))) 1) (below P.variables)

  -- The one place that stores: entry i's store, where `table` has the right sides' values.
  unfoldable pub store : List ℕ → List ℕ → ℕ → List ℕ
  store table values i = cond (stores i) (store_value P.widths table values (target i) (source i)) values
