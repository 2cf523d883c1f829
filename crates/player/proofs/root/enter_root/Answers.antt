-- `enter_root` enters node 0 with zeros in the fronts of its scratch lists, which have one element for each node. So
-- what it copies from there is what the rules' begin leaves.
use Rattle.std.proofs.Common.{◌≡◌, ℕ, ◌≤◌, List, length, take, drop, ◌++◌, replicate, sym, ap, ◌∙◌, arith}
use Rattle.std.proofs.lemmas.List.{take-replicate, length-take-le}
use Rattle.std.proofs.Math.Seq.{take_at}
use Rattle.semantics.specs.Program.{Program, node_count}
use Rattle.semantics.specs.Tree.{statement_at}
use Rattle.semantics.specs.Walk.{enter}
use Rattle.semantics.specs.Calls.{root_walk}
use Rattle.semantics.specs.Facts.{Accepted}
use Rattle.player.specs.declared.work.Work.{Work}
use Rattle.player.specs.declared.outcome.Outcome.{Outcome}
use Rattle.player.specs.Memo.{Known, Holds}
use Rattle.player.specs.Work.{new_work}
use Rattle.player.specs.Walks.{walk_in, holds_now, Walking, Enters}
use Rattle.player.proofs.AcceptedLaws.{is_accepted, variables_fit}
use Rattle.player.proofs.RootLaws.{root_walking, root_walked, nothing_written, both_written}
use Rattle.player.proofs.root.enter_root.Goals as goal

-- the front of a scratch list that is lent
abbrev front : ℕ → List ℕ
front n = take n (replicate 1024 0)

-- ---- the program has n nodes
module _ {P : Program} (a : Accepted P) {n : ℕ} (fit : n ≡ node_count P.nodes) where
  -- a scratch list has an element for each node
  inside : n ≤ 1024
  inside = omega (arith, fit, a.sizes.nodes_fit)

  front_length : n ≡ length (front n)
  front_length = sym (length-take-le n (replicate 1024 0) inside)

  -- the front that is lent has a zero for each node
  blank : front n ≡ replicate (node_count P.nodes) 0
  blank = take-replicate n 1024 0 inside ∙ ap (λ (k : ℕ). replicate {A = ℕ} k 0) fit

  -- what comes back in that front is the front of the scratch list then
  came_back : (new : List ℕ) → length new ≡ length (front n) → take n (new ++ drop n (replicate 1024 0)) ≡ new
  came_back new kept = take_at new (drop n (replicate 1024 0)) n (kept ∙ sym front_length)

  module _ (before : Work) (fresh : before ≡ record new_work { memo = before.memo }) where
    -- the walk can begin
    walking : Known P.exprs before.memo → Walking P (front n) (front n) before
    walking known = rw blank (root_walking a before fresh known)

    -- what entering node 0 leaves is what the rules' begin leaves
    walked : (values : List ℕ) → Holds values before.memo → {outcome : Outcome} {marks counts : List ℕ} {work : Work}
        → Enters P before
        (enter (holds_now P before.memo) (statement_at P.nodes 0) (walk_in (front n) (front n) before)) outcome marks
        counts work
        → root_walk P values ≡ walk_in marks counts work
    walked values holds e = root_walked a before fresh values holds (rw blank at e)

-- ---- before node 0 is entered
pub fill_values-requires-clause-values_len : goal.fill_values-requires-clause-values_len
fill_values-requires-clause-values_len c = omega (arith, c.requires.values, variables_fit c.args.program.now)

pub slice_bounds-new_marks-end : goal.slice_bounds-new_marks-end
slice_bounds-new_marks-end c = inside (is_accepted c.args.program.now) c.requires.marks

pub slice_bounds-enter_node-end : goal.slice_bounds-enter_node-end
slice_bounds-enter_node-end c = front_length (is_accepted c.args.program.now) c.requires.marks

pub slice_bounds-new_counts-end : goal.slice_bounds-new_counts-end
slice_bounds-new_counts-end c = inside (is_accepted c.args.program.now) c.requires.marks

pub slice_bounds-enter_node-end-2 : goal.slice_bounds-enter_node-end-2
slice_bounds-enter_node-end-2 c = front_length (is_accepted c.args.program.now) c.requires.marks

pub enter_node-requires-clause-walking : goal.enter_node-requires-clause-walking
enter_node-requires-clause-walking c =
    let filled = c.fill_values.ensures in
    walking (is_accepted c.args.program.now) c.requires.marks c.fill_values.new.work filled.kept (filled.known _)

pub enter_node-requires-clause-i_bound : goal.enter_node-requires-clause-i_bound
enter_node-requires-clause-i_bound c = (is_accepted c.args.program.now).sizes.some_node

-- ---- node 0 is entered
pub returns-then-work : goal.returns-then-work
returns-then-work c =
    let filled = c.fill_values.ensures in
    let right =
    walked (is_accepted c.args.program.now) c.requires.marks c.fill_values.new.work filled.kept
    c.args.values.now filled.holds c.enter_node.ensures in
    nothing_written c.enter_node.new.work right _ _ c.if-work.true

pub returns : goal.returns
returns c =
    let filled = c.fill_values.ensures in
    let accepted = is_accepted c.args.program.now in
    let fit = c.requires.marks in
    let right =
    walked accepted fit c.fill_values.new.work filled.kept c.args.values.now filled.holds
    c.enter_node.ensures in
    let entered = c.enter_node in
    let marks = c.copy_from_slice.ensures.after ∙ came_back accepted fit entered.new.marks entered.auto.marks in
    let counts = c.copy_from_slice-2.ensures.after ∙ came_back accepted fit entered.new.counts entered.auto.counts in
    rw (marks, counts) (both_written c.enter_node.new.work right _ _ c.if-work.false)
