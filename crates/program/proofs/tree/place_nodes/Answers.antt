-- `place_nodes` places one node after the other: the node counts as a child of its parent before it is placed.
use Rattle.std.proofs.Common.{sym, ap, ◌∙◌, arith, length-set}
use Rattle.program.specs.declared.tree.Place.{Place}
use Rattle.semantics.proofs.Lists.ParentLaws.{depth_none}
use Rattle.program.specs.Places.{parent_in}
use Rattle.program.proofs.PlaceLaws.{counted_none, deeper, counted_some, grow}
use Rattle.program.proofs.tree.place_nodes.Goals.{in-Some, in-None}
use Rattle.program.proofs.tree.place_nodes.Goals as goal

-- what a read past the end of the table would give
abbrev zero : Place
zero = record { parent = 0; depth = 0; child_count = 0 }

pub loop-i-preserved : goal.loop-i-preserved
loop-i-preserved c =
    let l = c.loop-i in
    let nodes = c.args.program.now.nodes.now in
    elim c.match-above.branch [
      | in-Some w ↦
          let is = w.in-Some.ensures in
          rw (w.places-is, c.unwrap_or.ensures)
          (grow nodes l.i _ (simp length-set l.invariant.size) (omega arith)
          (counted_some nodes l.i l.places l.invariant w.in-Some.h is zero)
          c.match-above.above (ap parent_in w.above-is ∙ is) _
          (w.depth-is ∙ deeper nodes l.i l.places l.invariant w.in-Some.h is zero))
      | in-None w ↦
          let is = w.in-None.ensures in
          rw (w.places-is, c.unwrap_or.ensures)
          (grow nodes l.i l.places l.invariant.size (omega arith) (counted_none nodes l.i is l.invariant)
          c.match-above.above (ap parent_in (w.above-is ∙ w.in-None.is) ∙ is) _
          (w.depth-is ∙ sym (depth_none nodes l.i (sym is))))
    ]
