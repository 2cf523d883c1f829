-- `new` has a memo of nothing.
use Rattle.std.proofs.Common.{ap}
use Rattle.player.specs.declared.memo.Memo.{Memo}
use Rattle.player.specs.Work.{new_work}
use Rattle.player.proofs.work.Work.new.Goals as goal

pub returns : goal.returns
returns c = ap (λ (m : Memo). record new_work { memo = m }) c.new.ensures
