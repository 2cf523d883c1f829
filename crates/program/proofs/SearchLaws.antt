-- Laws of a search for a fault: `find`, over the indices below a count, finds the rules' lowest fault, or none where every
-- index passes. So it answers the question that is asked of each index.
use Rattle.std.proofs.Common.{◌≡◌, ℕ, ◌<◌, ◌≤◌, Bool, true, false, not, List, Option, None, Some, Result, Ok, sym, refl, ap, ◌∙◌, subst, inl, inr, zero-le, true≢false}
use borrow.Author.Tests.{not-true, not-false}
use denote.Ref.{Bor}
use denote.Param.Members.{Mut}
use Rattle.std.specs.Bool.{⊤}
use Rattle.std.specs.Fn.{CalledAt}
use Rattle.std.specs.Iterator.{YieldsThen}
use Rattle.std.specs.List.{FoldsTo}
use Rattle.std.specs.Option.{MatchOption}
use Rattle.std.specs.declared.ops.Range.{Range}
use Rattle.std.proofs.iter.Yields.{nat_range_steps}
use Rattle.std.proofs.lemmas.Iterator.{first_from_Range}
use Rattle.semantics.specs.Numbers.{below, every}
use Rattle.semantics.specs.Program.{Program}
use Rattle.semantics.specs.Questions.{lowest_fault}
use Rattle.semantics.specs.Check.{fault_item}
use Rattle.semantics.specs.Facts.{IsLowestFault}
use Rattle.semantics.proofs.Lists.Logic.{true_or_false}
use Rattle.semantics.proofs.Lists.FaultLaws.{lowest_found, no_item}
use Rattle.semantics.proofs.Lists.NumberLaws.{every_below, all-below}
use Rattle.program.specs.declared.refusal.Refusal.{Refusal}
use Rattle.program.specs.Answer.{Asked, number_of, item_of}

module _ (ok : ℕ → Bool) (n : ℕ) where
  -- what std says of such a search below n
  abbrev AllOrLowest : ℕ → Option ℕ → Type 0
  AllOrLowest n r =
      MatchOption r ((k : ℕ) → 0 ≤ k → k < n → ok k ≡ true)
      (λ i. (0 ≤ i) × (i < n) × (ok i ≡ false) × ((k : ℕ) → 0 ≤ k → k < i → ok k ≡ true))

  -- what the search found
  abbrev Found : Option ℕ → Type 0
  Found r = MatchOption r (every ok (below n) ≡ true) (IsLowestFault ok n)

  found : (r : Option ℕ) → AllOrLowest n r → Found r
  found None h = all-below ok n (λ i l. h i zero-le l)
  found (Some i) h = record { within = h.1; fails = h.2; lower_pass = λ j l. h.3 j zero-le l }

  one_fails : (i : ℕ) → IsLowestFault ok n i → every ok (below n) ≡ false
  one_fails i f = elim (true_or_false (every ok (below n))) [
    | inl e ↦ absurd (true≢false (sym (every_below ok n e i f.within) ∙ f.fails))
    | inr e ↦ e
  ]

  -- ---- a search up to `end` that calls a test of faults
  module _ {F : Type 0} {g : Mut F (Bor ℕ × Unit {0}) Bool} {end : ℕ} (whole : end ≡ n) {f : F} (u : Range ℕ)
      (tests : (x : ℕ) (b : Bool) (q : F) → CalledAt g f x b q → (q ≡ f) × (b ≡ not (ok x))) where
    abbrev Ran : Option ℕ → Type 0
    Ran r =
        (xs : List ℕ) × (j : F) × YieldsThen nat_range_steps (record { start = 0; end = end }) xs r u
        × FoldsTo (λ p x q. CalledAt g p x false q) f xs j × MatchOption r ⊤ (λ x. (h : F) × CalledAt g j x true h)

    searched : (r : Option ℕ) → Ran r → Found r
    searched r ran =
        found r
        (subst (λ (x : ℕ). AllOrLowest x r) whole
        (first_from_Range _ u f r (λ i. ok i ≡ false) (λ i. ok i ≡ true) ran
        (λ x q k. not-true _ (sym (tests x true q k).1))
        (λ x q k. ((tests x false q k).0, not-false _ (sym (tests x false q k).1)))))

    -- a question that is asked of each index, where the lowest fault is refused, is answered right
    pub answered : {P : Program} {question : ℕ} → fault_item P question ≡ lowest_fault ok n → (r : Option ℕ) → Ran r
        → {answer : Result ⊤ Refusal} {Refuses : ℕ → Type 0} → MatchOption r (answer ≡ Ok tt) Refuses
        → ((i : ℕ) → Refuses i → (number_of answer ≡ question) × (item_of answer ≡ i))
        → Asked P question (every ok (below n)) answer
    answered {P} item None ran ends refuses =
        rw ends (record { right_number = rw (searched None ran); right_item = sym (no_item P 0 refl) })
    answered {P} item (Some i) ran ends refuses =
        let f = searched (Some i) ran in
        let (number, fault) = refuses i ends in
        record {
          right_number = rw (one_fails i f) number;
          right_item = fault ∙ sym (lowest_found ok n i f) ∙ sym item ∙ ap (fault_item P) (sym number);
        }
