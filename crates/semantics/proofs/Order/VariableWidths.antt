-- What a reader of request 1 will want: a store leaves its value modulo two to the power of the variable's width and
-- touches no other variable, and at every cycle every value is in its variable's range.
use mathlib.Core.Path.{◌≡◌}
use mathlib.Core.Bool.{true}
use mathlib.Core.List.{List}
use mathlib.Core.Logic.{◌≢◌}
use mathlib.Core.Option.{some}
use Prim.Native.Nat.{ℕ, ◌%◌, ◌^◌, ◌<◌}
use native.Mathlib.Omega.{arith}
use lib.ListN.{length, get_or}
use lib.Seq.{get_or-set_same, get_or-set_other}
use Rattle.semantics.specs.Program.{Program}
use Rattle.semantics.specs.Check.{check_number}
use Rattle.semantics.specs.Widths.{width_at, truncated}
use Rattle.semantics.specs.State.{State}
use Rattle.semantics.specs.Completion.{stores, target, source, store}
use Rattle.semantics.specs.Calls.{run_answer}
use Rattle.semantics.specs.Facts.{Ready}
use Rattle.semantics.proofs.Order.InRange.{values_in_range_lem, in_range}
use Rattle.semantics.proofs.Order.CycleOrder.{fits_lengths}
use Rattle.semantics.proofs.Order.RunTheorems.{run_ready}

pub store_modulo : (P : Program) (marks table values : List ℕ) (i e : ℕ)
    → stores P marks i ≡ true → source P marks i ≡ some e → target P marks i < length values
    → (let v = target P marks i in let after = store P marks table values i in
    (get_or after v 0 ≡ get_or table e 0 % 2 ^ width_at P.widths v)
    × ((w : ℕ) → w ≢ v → get_or after w 0 ≡ get_or values w 0))
unfolding store
store_modulo P marks table values i e t f l =
    let v = target P marks i in
    let kept = truncated P.widths v (get_or table e 0) in
    rw (t, f) (get_or-set_same values v kept 0 l, λ w n. get_or-set_other values v w kept 0 n)

pub variable_widths : (P : Program) → check_number P ≡ 0 → (s : State) → Ready P s
    → (n : ℕ) (book : List ℕ) (v : ℕ) → v < P.variables
    → get_or (run_answer P n s book).state.values v 0 < 2 ^ width_at P.widths v
variable_widths P accepted s ready n book v l =
    let r = run_ready P accepted s ready n book in
    let m = (fits_lengths P _ r.fit).values in
    in_range P.widths _ (values_in_range_lem P _ r.formed) v (omega arith)
