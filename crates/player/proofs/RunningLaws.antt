-- The cycles of a run in code: what is known before each cycle, and from it the rules' answer at each way out of the
-- loop. Before each cycle the rules' run from the start is the run of the cycles left, from the lists as they are, by
-- the entries not read yet, with the cycles worked so far counted in.
use mathlib.Core.Path.{◌≡◌, sym, ap, ◌∙◌, subst}
use mathlib.Core.Bool.{Bool, false, cond}
use mathlib.Core.List.{List}
use mathlib.Core.Logic.{◌≢◌}
use Prim.Native.Nat.{ℕ, suc, ◌+◌, ◌-◌, ◌≤◌, ◌<◌, zero-le}
use native.Mathlib.Nat.{add-zero, sub-zero, min-le_right}
use native.Mathlib.Omega.{arith}
use lib.ListN.{length, drop, length-take}
use borrow.Author.Tests.{eq-eqb, ne_eqb}
use Rattle.semantics.specs.Program.{Program}
use Rattle.semantics.specs.State.{State, mark_count, ended}
use Rattle.semantics.specs.Cycle.Outcome.{refused, advances_to}
use Rattle.semantics.specs.Run.{Run, run, stopped, one_more, next_entries, later_entries}
use Rattle.semantics.specs.Calls.{answer}
use Rattle.semantics.proofs.Run.RunLaws.{answer_of, worked_before, none_before, Refuses, WorksTo}
use Rattle.semantics.proofs.Run.RunLaws.{run_no_cycle, run_ended, run_refused, run_worked}
use Rattle.semantics.proofs.Run.FirstWrong.{worked_active}
use Rattle.semantics.proofs.Run.EntriesLaws.{active_means}
use Rattle.semantics.proofs.Order.CycleOrder.{leaves_ready}
use Rattle.semantics.proofs.Order.OrderRule.{answer_of_run}
use Rattle.player.specs.Cycle.{Runnable, CycleAnswer}
use Rattle.player.specs.Run.{RunAnswer}
use Rattle.player.proofs.RunAnswerLaws.{answer_cycles}

one_more_before : (k : ℕ) (r : Run) → worked_before k (one_more r) ≡ worked_before (k + 1) r
one_more_before k r =
    let e : k + suc r.worked ≡ (k + 1) + r.worked = omega arith in
    λ i. record { number = r.number; worked = e i; state = r.state; unread = r.unread }

-- k of n cycles are worked, the lists are s, and `rest` are the entries not read yet
pub record Progress (P : Program) (n : ℕ) (s₀ : State) (book : List ℕ) (s : State) (k : ℕ) (rest : List ℕ) : Type 0 where
  pub within : k ≤ n
  pub runnable : Runnable P s
  pub same : run P n s₀ book ≡ worked_before k (run P (n - k) s rest)

module _ {P : Program} {n : ℕ} {s₀ : State} {book : List ℕ} (start : Runnable P s₀) where
  pub none_worked : Progress P n s₀ book s₀ 0 book
  none_worked =
      record {
        within = zero-le;
        runnable = start;
        same = sym (none_before (run P n s₀ book))
            ∙ ap (λ (x : ℕ). worked_before 0 (run P x s₀ book)) (sym (sub-zero n));
      }

  module _ {s : State} {k : ℕ} {rest : List ℕ} (p : Progress P n s₀ book s k rest) where
    stops : {q : ℕ} → run P (n - k) s rest ≡ stopped q s rest → RunAnswer P n s₀ book q 0 k s
    stops {q} e =
        answer_cycles start.accepted
        (answer_of_run P start.accepted s₀ start.ready n book ∙ ap (answer_of P) (p.same ∙ ap (worked_before k) e)
        ∙ (λ i. answer P q (add-zero k i) s))

    -- as many as are asked
    pub all-worked : {worked : ℕ} → worked ≡ k → n ≤ k → RunAnswer P n s₀ book 0 0 worked s
    all-worked w l =
        let e : n - k ≡ 0 = omega arith in
        rw w (stops (ap (λ (x : ℕ). run P x s rest) e ∙ run_no_cycle P s rest))

    module _ {m : ℕ} (counted : m ≡ mark_count s.marks) where
      -- no mark stands
      pub no_mark : m ≡ 0 → RunAnswer P n s₀ book 0 0 k s
      no_mark z =
          stops (run_ended P (n - k) s rest (eq-eqb (mark_count s.marks) 0 (sym counted ∙ z)))

      module _ (l : k < n) (some : m ≢ 0) where
        a_mark : ended s ≡ false
        a_mark = ne_eqb (mark_count s.marks) 0 (λ z. some (counted ∙ z))

        next : n - k ≡ suc (n - (k + 1))
        next = omega arith

        -- the cycle is refused
        pub one_refused : {q : ℕ} {s' : State} → CycleAnswer P s rest q s' → q ≢ 0
            → RunAnswer P n s₀ book q 0 k s'
        one_refused {q} {s'} a no_zero =
            let refuses : Refuses P s rest q =
            (a_mark, a.outcome ∙ ap (λ (b : Bool). cond b (advances_to s') (refused q)) (ne_eqb q 0 no_zero)) in
            subst (RunAnswer P n s₀ book q 0 k) (sym (a.kept no_zero))
            (stops (ap (λ (x : ℕ). run P x s rest) next
            ∙ run_refused P (n - (k + 1)) q s rest refuses))

        -- the cycle is worked: its entries are there
        module _ {s' : State} (a : CycleAnswer P s rest 0 s') where
          works : WorksTo P s rest s'
          works = (a_mark, a.outcome)

          pub enough : m ≤ length rest
          enough =
              let active = worked_active P s s' rest works in
              subst (λ (x : ℕ). x ≤ length rest)
              (sym (length-take (mark_count s.marks) rest)
              ∙ ((active_means s.marks (next_entries s rest)).0 active).as_many ∙ sym counted)
              (min-le_right (mark_count s.marks) (length rest))

          pub one_worked : Progress P n s₀ book s' (k + 1) (drop m rest)
          one_worked =
              let active = worked_active P s s' rest works in
              let ready = p.runnable in
              record {
                within = omega arith;
                runnable = record {
                  accepted = ready.accepted;
                  ready = leaves_ready P ready.accepted s ready.ready s' (next_entries s rest) active a.outcome;
                };
                same = p.same ∙ ap (λ (x : ℕ). worked_before k (run P x s rest)) next
                    ∙ ap (worked_before k) (run_worked P (n - (k + 1)) s s' rest works)
                    ∙ one_more_before k (run P (n - (k + 1)) s' (later_entries s rest))
                    ∙ ap (λ (x : ℕ). worked_before (k + 1) (run P (n - (k + 1)) s' (drop x rest))) (sym counted);
              }
