-- The stores and the walks of a cycle in code: from what they left to the rules' state after the cycle, or where a
-- zero-time loop was met, to the state before it.
use mathlib.Core.List.{foldl}
use Rattle.std.proofs.Common.{◌≡◌, ℕ, ◌<◌, Bool, true, false, cond, List, [], length, get_or, replicate, Ok, Err, refl, sym, ap, ◌∙◌, arith}
use lib.ListN.{length-replicate}
use Rattle.arrayvec.specs.ArrayVec.{ArrayVec}
use Rattle.semantics.specs.Program.{Program, node_count}
use Rattle.semantics.specs.State.{State, mark_count}
use Rattle.semantics.specs.Completion.{store}
use Rattle.semantics.specs.Walk.{Walk}
use Rattle.semantics.specs.Cycle.{new_values, walked, visit}
use Rattle.semantics.specs.Facts.{LengthsFit}
use Rattle.semantics.proofs.Order.CycleOrder.{fits_lengths}
use Rattle.program.specs.declared.refusal.Refusal.TheVariants.{Loop}
use Rattle.player.specs.declared.work.Work.{Work}
use Rattle.player.specs.declared.stores.Store.{Store}
use Rattle.player.specs.declared.scratch.Scratch.{Scratch}
use Rattle.player.specs.Begin.{state_of}
use Rattle.player.specs.Work.{Climbing, Masks}
use Rattle.player.specs.Walks.{walk, walk_in, holds_now, Walking, Walks}
use Rattle.player.specs.WellFormed.{ListsFit, count_from}
use Rattle.player.specs.Entries.{set_all}
use Rattle.player.specs.Channels.{marks_of}
use Rattle.player.specs.Stores.{HeldFit, Started, Stored, taken_back}
use Rattle.player.specs.Cycle.{Runnable, Carried, AdvanceAnswer, visit_in, walk_after}
use Rattle.player.proofs.MemoLaws.{same_values, same_conditions}
use Rattle.player.proofs.HeldLaws.{put_masked}
use Rattle.player.proofs.RootLaws.{none_marked}
use Rattle.player.proofs.EntryLaws.{all_fit}
use Rattle.player.proofs.UndoLaws.{formed_counts}

-- of the state at the start of a cycle a visit reads the marks alone
visit_marks : (P : Program) (s : State) → visit P s ≡ visit P (state_of [] s.marks [])
unfolding visit
visit_marks P s = refl

module _ {P : Program} {values counts entries : List ℕ} {before : Scratch}
    (r : Runnable P (state_of values (marks_of P entries) counts))
    (carried : Carried P values (marks_of P entries) before.work) (x : Started P entries before) where
  -- the state before the cycle
  abbrev s : State
  s = state_of values (marks_of P entries) counts

  lengths : LengthsFit P s
  lengths = fits_lengths P s r.ready.fit

  -- ---- the stores

  pub held_fit : HeldFit values before.stores.items
  held_fit =
      let same = lengths.values in
      let few = x.cycle.accepted.sizes.variables_fit in
      record {
        values_fit = omega arith;
        targets = λ j l. let inside = x.listed.targets j l in omega arith;
      }

  module _ {values' : List ℕ} (work : Work) {stores : ArrayVec Store}
      (d : Stored values before.work before.stores.items values' work stores.items) where
    new : values' ≡ new_values P s entries
    unfolding new_values
    new =
        d.right
        ∙ put_masked P.widths before.work before.stores.items values carried.masks (λ j l.
        let inside = x.listed.targets j l in let few = x.cycle.accepted.sizes.variables_fit in omega arith)
        ∙ x.listed.right values
        ∙ ap (λ (table : List ℕ). foldl (store P (marks_of P entries) table) values entries)
        (same_values P.exprs values before.work.memo carried.holds)

    -- ---- the walks

    abbrev begun : Work
    begun = record work { tally = 0 }

    pub climbing : Climbing P.nodes begun
    climbing i l = rw (ap (λ (w : Work). w.parents) d.kept) (carried.climbing i l)

    masks : Masks P.widths begun
    masks v l = rw (ap (λ (w : Work). w.masks) d.kept) (carried.masks v l)

    unmet : begun.looped ≡ false
    unmet = ap (λ (w : Work). w.looped) d.kept ∙ carried.unmet

    module _ {marks₀ : List ℕ} (clear : marks₀ ≡ replicate (node_count P.nodes) 0) where
      -- what the walks start from
      pub walking : Walking P marks₀ counts begun
      walking = record {
        accepted = x.cycle.accepted;
        marks_fit = ap length clear ∙ length-replicate {A = ℕ} (node_count P.nodes) 0;
        counts_fit = lengths.counts;
        known = d.known P.exprs carried.known;
        tally = sym (ap mark_count clear ∙ none_marked (node_count P.nodes));
      }

      module _ {marks' counts' : List ℕ} (work' : Work)
          (w : Walks P begun (foldl (visit_in P entries (holds_now P work.memo)) (walk_in marks₀ counts begun) entries)
          marks' counts' work') where
        after : walk_after P s entries ≡ walk_in marks' counts' work'
        unfolding walked
        after =
            let zeros = sym clear in
            let flag = sym unmet in
            let conditions = sym (same_conditions P values' work.memo d.holds) in
            ap (λ (v : List ℕ). walked P s v entries) (sym new)
            ∙ (λ i. foldl (visit_marks P s i (conditions i)) (walk (zeros i) counts (flag i)) entries) ∙ w.right

        looped : (walk_after P s entries).looped ≡ work'.looped
        looped = ap (λ (v : Walk). v.looped) after

        abbrev left : State
        left =
            state_of (new_values P s entries) (walk_after P s entries).marks (walk_after P s entries).counts

        abbrev scratch : Scratch
        scratch = record { work = work'; claims = before.claims; stores = stores }

        pub advanced : work'.looped ≡ false
            → AdvanceAnswer P s entries before (Ok tt) (state_of values' marks' counts') scratch
        advanced no_loop =
            let e = looped ∙ no_loop in
            let back = sym after in
            record {
              advanced = record {
                right_number = sym (ap (λ (b : Bool). cond b 10 0) e);
                right_state = (λ i. state_of (new i) (back i).marks (back i).counts)
                    ∙ sym (ap (λ (b : Bool). cond b s left) e);
              };
              no_item = refl;
              carried = λ n. record {
                known = w.walking.known;
                holds = λ v. rw w.kept.variables (d.holds v);
                tally = w.walking.tally;
                climbing = λ i l. rw w.kept.parents (climbing i l);
                masks = λ v l. rw w.kept.masks (masks v l);
                unmet = no_loop;
              };
              claims_kept = refl;
            }

        -- the lists that are taken back fit the program
        pub lists_fit : ListsFit P marks' counts'
        lists_fit = record {
          accepted = x.cycle.accepted;
          marks_fit = w.walking.marks_fit;
          counts_fit = w.walking.counts_fit;
        }

        pub entries_fit : (k : ℕ) → k < length entries → get_or entries k 0 < length marks'
        entries_fit k l =
            let inside = all_fit (marks_of P entries) entries x.cycle.entries_active k l in
            let same = w.walking.marks_fit in
            let fit = lengths.marks in
            omega arith

        -- ---- a zero-time loop

        module _ {marks'' : List ℕ} (m : marks'' ≡ set_all 1 (replicate (length marks') 0) entries) where
          marks_back : marks'' ≡ marks_of P entries
          unfolding marks_of
          marks_back = m ∙ ap (λ (n : ℕ). set_all 1 (replicate n 0) entries) w.walking.marks_fit

          counts_back : {counts'' : List ℕ} → length counts'' ≡ length counts'
              → ((i : ℕ) → i < node_count P.nodes → get_or counts'' i 0 ≡ count_from P.nodes marks'' i)
              → counts'' ≡ counts
          counts_back {counts''} same right =
              formed_counts P s r.ready.formed lengths.marks lengths.counts counts''
              (same ∙ w.walking.counts_fit)
              (λ i l. right i l ∙ ap (λ (ms : List ℕ). count_from P.nodes ms i) marks_back)

          pub taken_back_lem : work'.looped ≡ true → {values'' : List ℕ}
              → values'' ≡ taken_back stores.items values' → {counts'' : List ℕ}
              → length counts'' ≡ length counts'
              → ((i : ℕ) → i < node_count P.nodes → get_or counts'' i 0 ≡ count_from P.nodes marks'' i)
              → AdvanceAnswer P s entries before (Err Loop) (state_of values'' marks'' counts'') scratch
          taken_back_lem loop v same right =
              let e = looped ∙ loop in
              let values_back = v ∙ d.back in
              let marks_same = marks_back in
              let counts_same = counts_back same right in
              record {
                advanced = record {
                  right_number = sym (ap (λ (b : Bool). cond b 10 0) e);
                  right_state = (λ i. state_of (values_back i) (marks_same i) (counts_same i))
                      ∙ sym (ap (λ (b : Bool). cond b s left) e);
                };
                no_item = refl;
                carried = λ z. absurd (omega (arith, z));
                claims_kept = refl;
              }
