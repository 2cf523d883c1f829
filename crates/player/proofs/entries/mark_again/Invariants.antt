-- `mark_again` marks one entry a turn: the invariant is that the first are marked.
use Rattle.std.proofs.Common.{◌≡◌, length, take}
use Rattle.player.specs.Entries.{set_all}
use Rattle.player.proofs.entries.mark_again.Given as goal

abbrev pub invariant-loop-i : goal.invariant-loop-i
invariant-loop-i l = record {
  same_length : length l.marks ≡ length l.initial.marks;
  right : l.marks ≡ set_all 1 l.initial.marks (take l.i-index l.entries);
}
