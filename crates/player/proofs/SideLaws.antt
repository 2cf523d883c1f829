-- The first k entries have claimed the variables that they store to, and their right sides are listed: the step from one
-- entry to the next, and question 9.
use mathlib.Core.List.{foldl}
use Rattle.std.proofs.Common.{◌≡◌, ◌≢◌, ℕ, ◌+◌, ◌≤◌, ◌<◌, Bool, true, false, ◌&&◌, eqb, List, length, get_or, set}
use Rattle.std.proofs.Common.{drop, [], ◌∷◌, ◌++◌, refl, sym, ap, ◌∙◌, subst, inl, inr, arith, length-append}
use Rattle.std.proofs.lemmas.List.{get_or_append_left}
use Rattle.std.proofs.Math.ListN.{drop_of_length-le}
use Rattle.std.proofs.Math.Seq.{get_or-append_seam}
use lib.Dec.{leb}
use native.Mathlib.Nat.{le_refl}
use borrow.Author.Tests.{le-leb, leb-true, eqb-true}
use Rattle.semantics.specs.Numbers.{filter}
use Rattle.semantics.specs.Program.{Program}
use Rattle.semantics.specs.Widths.{truncated}
use Rattle.semantics.specs.Expressions.{expr_values}
use Rattle.semantics.specs.State.{active}
use Rattle.semantics.specs.Completion.{stores, target, targets_apart}
use Rattle.semantics.proofs.Lists.Logic.{refuted, lt_or_le}
use Rattle.semantics.proofs.Lists.NumberLaws.{every_below, all-below}
use Rattle.player.specs.declared.claims.Slots.{Slots}
use Rattle.player.specs.declared.claims.Claims.{Claims as CodeClaims}
use Rattle.player.specs.declared.stores.Store.{Store}
use Rattle.player.specs.Claims.{Claim, Unclaimed, rank_in, is_free}
use Rattle.player.specs.Channels.{marks_of, CycleOf, Paired, PairedEntry}
use Rattle.player.specs.Stores.{StoresAt, Listed, SidesTo, put_all, store_from, variable_at}
use Rattle.player.proofs.RankLaws.{unclaimed_rank, claimed_key, claimed_nothing}
use Rattle.player.proofs.ClaimLaws.{claims_none, claims_more, claims_refused, claims-all}
use Rattle.player.proofs.CycleLaws.{entry_at, single_entries, entries_few, fold_next}
use Rattle.player.proofs.StoreLaws.{target_inside, target_fits, stored, not_stored}
use Rattle.player.proofs.HeldLaws.{no_store, put_last}

-- ---- the entries of a cycle

module _ {P : Program} {entries : List ℕ} (x : CycleOf P entries) where
  abbrev storing : ℕ → Bool
  storing = stores P (marks_of P entries)

  abbrev place : ℕ → ℕ
  place = target P (marks_of P entries)

  -- what a variable keeps of a value
  abbrev keep : ℕ → ℕ → ℕ
  keep = truncated P.widths

  -- a claim of a variable is none of a channel
  abbrev pub with_writers : CodeClaims → Slots → CodeClaims
  with_writers claims writers = record claims { writers = writers }

  still_paired : {claims : CodeClaims} (writers : Slots) → Paired P entries claims
      → Paired P entries (with_writers claims writers)
  still_paired writers p = record {
    inputs_size = p.inputs_size;
    outputs_size = p.outputs_size;
    inputs = p.inputs;
    outputs = p.outputs;
  }

  -- at most one marked node stores to the variable
  abbrev stores_to : ℕ → ℕ → Bool
  stores_to v i = storing i && eqb (place i) v

  abbrev single : ℕ → Bool
  single v = leb (length (filter (stores_to v) (active (marks_of P entries)))) 1

  single_storing : (v : ℕ) → single v ≡ leb (length (filter (stores_to v) entries)) 1
  single_storing v = single_entries x (stores_to v)

  module _ (variables : List ℕ) where
    abbrev step : List ℕ → ℕ → List ℕ
    step = store_from P entries variables

    pub sides_none : {claims : CodeClaims} → Paired P entries claims → Unclaimed claims.writers claims.stamp
        → SidesTo P entries variables claims [] 0
    sides_none {claims} p u = record {
      paired = p;
      claimed = claims_none storing place claims.stamp claims.writers (λ v l. unclaimed_rank v u l);
      few = le_refl 0;
      targets = λ j l. absurd (omega arith);
      rest = λ values. refl;
    }

    module _ {claims : CodeClaims} {list : List Store} {k : ℕ} (h : SidesTo P entries variables claims list k) where
      -- all entries are done
      pub all_apart : length entries ≤ k → targets_apart P (marks_of P entries) ≡ true
      unfolding targets_apart
      all_apart l =
          let all = claims-all storing place claims.stamp entries claims.writers k l h.claimed in
          all-below single P.variables (λ v i. single_storing v ∙ le-leb _ 1 (all v).single)

      pub all-listed : length entries ≤ k → Listed P entries variables list
      all-listed l = record {
        targets = h.targets;
        right = λ values. sym (h.rest values ∙ rw (drop_of_length-le entries {i = k} l));
      }

      module _ (l : k < length entries) where
        abbrev entry : ℕ
        entry = get_or entries k 0

        abbrev side_entry : PairedEntry P claims entry
        side_entry = entry_at x h.paired k l

        inside : storing entry ≡ true → place entry < 256
        inside s = target_fits side_entry s

        pub sides_room : length list < 1024
        sides_room = let few = h.few in let most = entries_few x in omega arith

        -- the entry's store in the rules
        next : (values : List ℕ) {values' : List ℕ} → step (put_all keep list values) entry ≡ values'
            → foldl step values entries ≡ foldl step values' (drop (k + 1) entries)
        next values e =
            h.rest values ∙ fold_next step (put_all keep list values) entries k l
            ∙ ap (λ (v : List ℕ). foldl step v (drop (k + 1) entries)) e

        -- an entry that stores nothing
        pub sides_skip : storing entry ≡ false → SidesTo P entries variables claims list (k + 1)
        sides_skip s =
            let few = h.few in
            record {
              paired = h.paired;
              claimed = claims_more storing place claims.stamp entries k l claims.writers claims.writers h.claimed inside
                  (rw s) (claimed_nothing storing place claims.writers claims.writers claims.stamp entry
                  (λ v u. refl) s);
              few = omega arith;
              targets = h.targets;
              rest = λ values.
                  next values (not_stored side_entry (expr_values P.exprs variables) (put_all keep list values) s);
            }

        -- an entry that stores to a variable that was claimed already
        pub not_apart : storing entry ≡ true → rank_in claims.writers claims.stamp (place entry) ≢ 0
            → targets_apart P (marks_of P entries) ≡ false
        unfolding targets_apart
        not_apart s taken =
            let busy : is_free storing place claims.writers claims.stamp entry ≡ false =
            rw s (refuted _ (λ z. taken (eqb-true (rank_in claims.writers claims.stamp (place entry)) 0 z))) in
            let two = (claims_refused storing place claims.stamp entries k l claims.writers h.claimed inside busy).1 in
            refuted _ (λ a.
            let most = sym (single_storing (place entry))
            ∙ every_below single P.variables a (place entry) (target_inside side_entry s) in
            let least = leb-true (length (filter (stores_to (place entry)) entries)) 1 most in
            omega arith)

        -- an entry that stores to variable v the value of expression e
        module _ {v e : ℕ} (s : StoresAt P (marks_of P entries) entry v e) where
          store_inside : v < P.variables
          store_inside = rw s.place (target_inside side_entry s.storing)

          -- it claims the variable, and its right side is listed
          module _ {writers : Slots} (c : Claim claims.writers writers claims.stamp v entry true) (value : ℕ) where
            abbrev listed : Store
            listed = record { variable = record { 0 = v }; value = value }

            pub sides_worked : length claims.writers.slots ≡ 256
                → value ≡ get_or (expr_values P.exprs variables) e 0
                → SidesTo P entries variables (with_writers claims writers) (list ++ listed ∷ []) (k + 1)
            sides_worked size right =
                let few = h.few in
                let one_more : length (list ++ listed ∷ []) ≡ length list + 1 = length-append list (listed ∷ []) in
                record {
                  paired = still_paired writers h.paired;
                  claimed = claims_more storing place claims.stamp entries k l claims.writers writers h.claimed inside
                      (rw (s.storing, ← s.place) (sym c.was_free))
                      (claimed_key storing place claims.writers writers claims.stamp entry size
                      (subst (λ (t : ℕ). Claim claims.writers writers claims.stamp t entry true) s.place c) refl
                      (inside s.storing) s.storing);
                  few = omega arith;
                  targets = λ j u. elim (lt_or_le j (length list)) [
                    | inl m ↦
                        subst (λ (a : Store). a.variable.0 < P.variables)
                        (sym (get_or_append_left list (listed ∷ []) no_store j m)) (h.targets j m)
                    | inr m ↦
                        let last : length list ≡ j = omega arith in
                        subst (λ (i : ℕ). variable_at (list ++ listed ∷ []) i < P.variables) last
                        (subst (λ (a : Store). a.variable.0 < P.variables)
                        (sym (get_or-append_seam list listed [] no_store)) store_inside)
                  ];
                  rest = λ values.
                      next values
                      (stored side_entry (expr_values P.exprs variables) (put_all keep list values) s
                      ∙ ap (λ (w : ℕ). set (put_all keep list values) v (keep v w)) (sym right)
                      ∙ sym (put_last list listed values keep));
                }
