-- `fill_values` writes the values over zeros, at the first moment.
use Rattle.std.proofs.Common.{refl, ap}
use Rattle.player.specs.declared.work.Work.{Work}
use Rattle.player.proofs.StartLaws.{known_written}
use Rattle.player.proofs.start.fill_values.Goals as goal

pub returns-clause-known : goal.returns-clause-known
returns-clause-known c =
    rw (ap (λ (w : Work). w.memo) c.requires.new, c.copy_from_slice.ensures.after)
    (known_written _ _ refl c.requires.values_len)
