-- `restore_all` has the last stores taken back.
use Rattle.std.proofs.Common.{List, sym, ap, ◌∙◌}
use Rattle.std.proofs.lemmas.List.{nil_from_length}
use Rattle.player.specs.declared.stores.Store.{Store}
use Rattle.player.specs.Stores.{taken_back}
use Rattle.player.proofs.StoredLaws.{restore_start, restore_more}
use Rattle.player.proofs.stores.restore_all.Goals as goal

pub loop-store-init : goal.loop-store-init
loop-store-init c =
    rw (
      c.into_iter-store-iterator.ensures.into_iter_gives,
      c.rev-store-items.ensures.source,
      c.iter.ensures.rest,
      c.as_slice.ensures.value,
    )
    (restore_start c.requires)

pub loop-store-preserved : goal.loop-store-preserved
loop-store-preserved c = restore_more _ _ _ c.loop-store.invariant c.in-Some.ensures.steps

pub returns : goal.returns
returns c =
    ap (λ (rest : List Store). taken_back rest c.loop-store.values)
    (sym (nil_from_length _ c.in-None.ensures.steps.0)) ∙ c.loop-store.invariant.back
