-- What no walk writes is kept.
use Rattle.std.proofs.Common.{◌∙◌}
use Rattle.player.specs.declared.work.Work.{Work}
use Rattle.player.specs.Work.{KeptTables}

pub kept_trans : {first second third : Work} → KeptTables first second → KeptTables second third
    → KeptTables first third
kept_trans f g =
    record {
      variables = g.variables ∙ f.variables;
      parents = g.parents ∙ f.parents;
      masks = g.masks ∙ f.masks;
    }
