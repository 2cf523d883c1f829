-- `store_all` has the first stores made.
use Rattle.std.proofs.Common.{◌≡◌, ◌||◌, Bool, length, ap, rules}
use Rattle.player.proofs.StoredLaws.{stored_none, stored_target, stored_more, stored_past, stored_moment, stored_same}
use Rattle.player.proofs.stores.store_all.Goals as goal

pub loop-store-init : goal.loop-store-init
loop-store-init c =
    let a = c.args in
    let size : length a.work.now.memo.variables ≡ 256 = search rules in
    rw c.as_mut_slice-store-items.ensures.value
    (stored_none a.values.now a.work.now a.stores.now.items c.requires.held_fit size c.requires.holds)

pub store_one-changed-requires : goal.store_one-changed-requires
store_one-changed-requires c = stored_target c.loop-store.invariant c.loop-store-test.true

pub loop-store-preserved : goal.loop-store-preserved
loop-store-preserved c =
    let l = c.loop-store in
    let more = c.loop-store-test.true in
    let made = c.store_one-changed.ensures in
    let (inside, few) = stored_target l.invariant more in
    rw (ap (λ (b : Bool). b || l.changed) made.changed, made.values_after, made.work_after, made.held)
    (stored_more _ _ _ l.invariant more inside few)

pub next_moment-requires-clause-past : goal.next_moment-requires-clause-past
next_moment-requires-clause-past c = stored_past c.loop-store.invariant c.requires.past

-- ---- all stores are made

pub returns-then-changed : goal.returns-then-changed
returns-then-changed c =
    rw (← c.as_mut_slice-store-items.ensures.value)
    (stored_moment c.loop-store.invariant c.loop-store-test.false c.next_moment.ensures)

pub returns-else-changed : goal.returns-else-changed
returns-else-changed c =
    rw (← c.as_mut_slice-store-items.ensures.value)
    (stored_same c.loop-store.invariant c.loop-store-test.false c.requires.holds c.if-changed.false)
