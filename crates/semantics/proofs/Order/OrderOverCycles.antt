-- The order rule over cycles: where the entries of one cycle may come in any order, two runs from one state have equal
-- answers exactly when their books first go wrong at the same cycle, or neither does.
-- One direction reads that cycle off the answer; the other is an induction over the cycles.
use mathlib.Core.Path.{◌≡◌, refl, sym, ap, ◌∙◌}
use mathlib.Core.Bool.{Bool, true, false, not, not-not}
use mathlib.Core.List.{List}
use mathlib.Core.Logic.{◌↔◌}
use mathlib.Core.Option.{Option, none, some, map, some-injective, none-ne-some}
use Prim.Native.Nat.{ℕ, suc}
use native.Mathlib.Nat.{suc_inj}
use Rattle.semantics.specs.Program.{Program}
use Rattle.semantics.specs.State.{State, ended}
use Rattle.semantics.specs.Cycle.{are_active, cycle}
use Rattle.semantics.specs.Cycle.Outcome.{advances_to}
use Rattle.semantics.specs.Run.{run, next_entries, later_entries}
use Rattle.semantics.specs.Book.{first_wrong}
use Rattle.semantics.proofs.Run.RunLaws.{refused_7, answer_of, one_more_of, WorksTo}
use Rattle.semantics.proofs.Run.RunLaws.{run_no_cycle, run_ended, run_refused, run_worked, run_induction}
use Rattle.semantics.proofs.Run.FirstWrong.{is_now, wrong_cycle, wrong_at_once, wrong_worked}
use Rattle.semantics.proofs.Run.FirstWrong.{worked_active, wrong_read_off}

map-suc_injective : (x y : Option ℕ) → map suc x ≡ map suc y → x ≡ y
map-suc_injective none none h = refl
map-suc_injective none (some k) h = absurd (none-ne-some (suc k) h)
map-suc_injective (some j) none h = absurd (none-ne-some (suc j) (sym h))
map-suc_injective (some j) (some k) h = ap some (suc_inj (some-injective (suc j) (suc k) h))

-- two books that are wrong now or not alike have next entries that are active or not alike
active_alike : (P : Program) (n : ℕ) (s : State) (b d : List ℕ) → ended s ≡ false
    → first_wrong P (suc n) s b ≡ first_wrong P (suc n) s d
    → are_active s.marks (next_entries s b) ≡ are_active s.marks (next_entries s d)
active_alike P n s b d e h =
    sym (not-not (are_active s.marks (next_entries s b)))
    ∙ ap not (sym (wrong_at_once P n s b e) ∙ ap is_now h ∙ wrong_at_once P n s d e)
    ∙ not-not (are_active s.marks (next_entries s d))

-- The entries of a cycle from s may come in any order.
abbrev pub AnyEntries : Program → State → Type 0
AnyEntries P s =
    (es fs : List ℕ) → are_active s.marks es ≡ true → are_active s.marks fs ≡ true → cycle P s es ≡ cycle P s fs

-- A worked cycle from s leaves a ready state.
abbrev pub LeavesReady : Program → (State → Type 0) → State → Type 0
LeavesReady P Ready s =
    (s' : State) (es : List ℕ) → are_active s.marks es ≡ true → cycle P s es ≡ advances_to s' → Ready s'

module _ (P : Program) (Ready : State → Type 0)
    (any-entries : (s : State) → Ready s → AnyEntries P s)
    (leaves_ready : (s : State) → Ready s → LeavesReady P Ready s) where
  same_cycle : (s : State) (es fs : List ℕ) → Ready s → are_active s.marks es ≡ are_active s.marks fs
      → cycle P s es ≡ cycle P s fs
  same_cycle s es fs r h = pick (are_active s.marks es) refl
    where
      pick : (b : Bool) → are_active s.marks es ≡ b → cycle P s es ≡ cycle P s fs
      pick true e = any-entries s r es fs e (sym h ∙ e)
      pick false e = refused_7 P s es e ∙ sym (refused_7 P s fs (sym h ∙ e))

  -- every book that goes wrong where b does is answered as b is
  abbrev Same : ℕ → State → List ℕ → Type 0
  Same n s b =
      (d : List ℕ) → Ready s → first_wrong P n s b ≡ first_wrong P n s d
      → answer_of P (run P n s b) ≡ answer_of P (run P n s d)

  same_answer : (n : ℕ) (s : State) (b : List ℕ) → Same n s b
  same_answer = run_induction P Same
      (λ s b d r h. rw (run_no_cycle P s b, run_no_cycle P s d))
      (λ n s b e d r h. rw (run_ended P (suc n) s b e, run_ended P (suc n) s d e))
      (λ n q s b c d r h. rw (run_refused P n q s b c, run_refused P n q s d (c.0, same n s b d r c.0 h ∙ c.1)))
      at_worked
    where
      same : (n : ℕ) (s : State) (b d : List ℕ) → Ready s → ended s ≡ false
          → first_wrong P (suc n) s b ≡ first_wrong P (suc n) s d → cycle P s (next_entries s d) ≡ cycle P s (next_entries s b)
      same n s b d r e h = same_cycle s (next_entries s d) (next_entries s b) r (active_alike P n s d b e (sym h))

      at_worked : (n : ℕ) (s s' : State) (b : List ℕ) → WorksTo P s b s' → Same n s' (later_entries s b) → Same (suc n) s b
      at_worked n s s' b c rec d r h =
          let c' : WorksTo P s d s' = (c.0, same n s b d r c.0 h ∙ c.1) in
          rw (run_worked P n s s' b c, run_worked P n s s' d c')
          (ap one_more_of (rec (later_entries s d) (leaves_ready s r s' (next_entries s b) (worked_active P s s' b c) c.1)
          (map-suc_injective _ _ (sym (wrong_worked P n s s' b c) ∙ h ∙ wrong_worked P n s s' d c'))))

  pub order_over_cycles : (n : ℕ) (s : State) (b d : List ℕ) → Ready s
      → (answer_of P (run P n s b) ≡ answer_of P (run P n s d)) ↔ (first_wrong P n s b ≡ first_wrong P n s d)
  order_over_cycles n s b d r = (
    λ h. wrong_read_off P n s b ∙ ap wrong_cycle h ∙ sym (wrong_read_off P n s d),
    same_answer n s b d r,
  )
