-- The right sides, entry by entry: what one entry leaves, and what the entries so far come to.
use Rattle.std.proofs.Common.{◌≡◌, ℕ, ◌+◌, ◌≤◌, ◌<◌, Bool, true, false, true≢false, List, Ok, Err, length, get_or}
use Rattle.std.proofs.Common.{[], ◌∷◌, ◌++◌, refl, sym, ap, ◌∙◌, subst}
use borrow.Author.Tests.{eqb-false}
use Rattle.arrayvec.specs.ArrayVec.{ArrayVec}
use Rattle.semantics.specs.Program.{Program, expr_count}
use Rattle.semantics.specs.Completion.{stores}
use Rattle.program.specs.declared.refusal.Refusal.TheVariants.{Stores as StoresClash}
use Rattle.player.specs.declared.claims.Slots.{Slots}
use Rattle.player.specs.declared.claims.Claims.{Claims as CodeClaims}
use Rattle.player.specs.declared.memo.Memo.{Memo}
use Rattle.player.specs.declared.work.Work.{Work}
use Rattle.player.specs.declared.stores.Store.{Store}
use Rattle.player.specs.declared.scratch.Scratch.{Scratch}
use Rattle.player.specs.Memo.{Worked, value_of}
use Rattle.player.specs.Claims.{Claim, UpTo, Aged}
use Rattle.player.specs.Channels.{marks_of, CycleOf, PairedEntry}
use Rattle.player.specs.Stores.{Storing, StoresAt, WorkedMore, RightSides, SidesTo}
use Rattle.player.proofs.MemoLaws.{same_trans}
use Rattle.player.proofs.RankLaws.{claim_old}
use Rattle.player.proofs.StoreLaws.{target_fits, source_inside}
use Rattle.player.proofs.CycleLaws.{entry_at}
use Rattle.player.proofs.SideLaws.{with_writers}
use Rattle.player.proofs.SideLaws.{sides_none, sides_room, sides_skip, sides_worked, not_apart, all_apart, all-listed}

-- some more expressions are worked, and then some more
pub more_trans : {exprs : List ℕ} {first second third : Work} → WorkedMore exprs first second
    → WorkedMore exprs second third → WorkedMore exprs first third
more_trans {third = third} f g = record {
  known = g.known;
  same = same_trans f.same g.same;
  kept = g.kept ∙ ap (λ (work : Work). record work { memo = third.memo }) f.kept;
}

-- The first k entries are done, and their stores are listed.
pub record RightSidesTo (P : Program) (entries : List ℕ) (before scratch : Scratch) (k : ℕ) : Type 0 where
  pub sides : SidesTo P entries before.work.memo.variables scratch.claims scratch.stores.items k
  pub more : WorkedMore P.exprs before.work scratch.work
  pub aged : Aged scratch.claims before.claims.stamp
  pub stamp : scratch.claims.stamp ≡ before.claims.stamp

pub right_none : {P : Program} {entries : List ℕ} {before : Scratch} → Storing P entries before.work.memo before.claims
    → {stores : ArrayVec Store} → stores.items ≡ [] → RightSidesTo P entries before (record before { stores = stores }) 0
right_none {before = before} x none = record {
  sides = rw none (sides_none x.cycle before.work.memo.variables x.paired x.unclaimed);
  more = record { known = x.known; same = record { variables = refl; present = refl }; kept = refl };
  aged = x.aged;
  stamp = refl;
}

module _ {P : Program} {entries : List ℕ} (x : CycleOf P entries) {before : Scratch} where
  module _ {scratch : Scratch} {k : ℕ} (h : RightSidesTo P entries before scratch k) where
    abbrev variables : List ℕ
    variables = before.work.memo.variables

    -- whatever was listed in the cycle before
    pub right-all : {listed : ArrayVec Store} → length entries ≤ k
        → RightSides P entries (record before { stores = listed }) (Ok tt) scratch
    right-all l =
        let apart = all_apart x variables h.sides l in
        record {
          answered = sym (rw apart);
          started = λ a. record {
            cycle = x;
            paired = h.sides.paired;
            listed = rw h.more.same.variables (all-listed x variables h.sides l);
          };
          more = h.more;
          aged = h.aged;
          stamp = h.stamp;
        }

    module _ (l : k < length entries) where
      abbrev entry : ℕ
      entry = get_or entries k 0

      abbrev pub right_entry : PairedEntry P scratch.claims entry
      right_entry = entry_at x h.sides.paired k l

      pub right_room : length scratch.stores.items < 1024
      right_room = sides_room x variables h.sides l

      -- an entry that stores nothing
      pub right_skip : stores P (marks_of P entries) entry ≡ false → RightSidesTo P entries before scratch (k + 1)
      right_skip s = record {
        sides = sides_skip x variables h.sides l s;
        more = h.more;
        aged = h.aged;
        stamp = h.stamp;
      }

      -- an entry that stores to variable v the value of expression e
      module _ {v e : ℕ} (s : StoresAt P (marks_of P entries) entry v e) where
        pub right_target : v < 256
        right_target = rw s.place (target_fits right_entry s.storing)

        pub right_expression : e < expr_count P.exprs
        right_expression = source_inside right_entry e s.right_side

        -- it has asked for the variable
        module _ {writers : Slots} {free : Bool}
            (c : Claim scratch.claims.writers writers scratch.claims.stamp v entry free) where
          abbrev claimed : CodeClaims
          claimed = with_writers x scratch.claims writers

          claimed_aged : Aged claimed before.claims.stamp
          claimed_aged = record {
            inputs = h.aged.inputs;
            outputs = h.aged.outputs;
            writers = subst (UpTo writers) h.stamp
                (claim_old h.aged.writers.size right_target c
                (subst (UpTo scratch.claims.writers) (sym h.stamp) h.aged.writers));
          }

          -- the variable was claimed already
          pub right_refused : {listed : ArrayVec Store} → free ≡ false
              → RightSides P entries (record before { stores = listed }) (Err StoresClash)
              (record scratch { claims = claimed })
          right_refused f =
              let clash = not_apart x variables h.sides l s.storing
              (rw s.place at (eqb-false _ 0 (sym c.was_free ∙ f))) in
              record {
                answered = sym (rw clash);
                started = λ a. absurd (true≢false (sym a ∙ clash));
                more = h.more;
                aged = claimed_aged;
                stamp = h.stamp;
              }

          -- its right side is worked and listed
          pub right_more : {value : ℕ} {memo : Memo} {stores : ArrayVec Store} → free ≡ true
              → Worked P.exprs scratch.work.memo memo e value
              → stores.items ≡ scratch.stores.items ++ record { variable = record { 0 = v }; value = value } ∷ []
              → RightSidesTo P entries before
              (record { work = record scratch.work { memo = memo }; claims = claimed; stores = stores }) (k + 1)
          right_more {value} {memo} f w longer = record {
            sides = rw longer (sides_worked x variables h.sides l s
                (subst (λ (b : Bool). Claim scratch.claims.writers writers scratch.claims.stamp v entry b) f c) value
                h.aged.writers.size
                (w.right ∙ ap (λ (vs : List ℕ). value_of P.exprs vs e) h.more.same.variables));
            more = more_trans h.more (record { known = w.known; same = w.same; kept = refl });
            aged = claimed_aged;
            stamp = h.stamp;
          }
