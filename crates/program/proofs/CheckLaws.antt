-- From the answers of the questions to check's answer: the first question answered no gives the number and the item.
use Rattle.std.proofs.Common.{◌≡◌, ℕ, ◌<◌, Bool, true, false, Result, Ok, Err, refl, ap, ◌∙◌, arith}
use Rattle.std.specs.Result.{IsErr, IsErrAnd}
use Rattle.semantics.specs.Numbers.{below, every}
use Rattle.semantics.specs.Program.{Program, expr_count, node_count}
use Rattle.semantics.specs.Widths.{widths_ok}
use Rattle.semantics.specs.Check.{sizes_ok, expr_ok, node_ok, references_ok, check_number, fault_item}
use Rattle.program.specs.declared.refusal.Refusal.{Refusal}
use Rattle.program.specs.Refusals.{question_number}
use Rattle.program.specs.Answer.{CheckAnswer, Asked, number_of, item_of}
use Rattle.program.proofs.AnswerLaws.{some_number}

module _ (P : Program) where
  abbrev pub Yes : ℕ → Bool → Type 0
  Yes q b = Asked {A = Unit {0}} P q b (Ok tt)

  abbrev pub No : Refusal → ℕ → Bool → Type 0
  No refusal q b = Asked {A = Unit {0}} P q b (Err refusal)

  is_yes : (q : ℕ) (b : Bool) → 0 < q → Yes q b → b ≡ true
  is_yes q true l a = refl
  is_yes q false l a = let e = a.right_number in absurd (omega arith)

  is_no : (refusal : Refusal) (q : ℕ) (b : Bool) → No refusal q b → (b ≡ false) × (question_number refusal ≡ q)
  is_no refusal q true a = let e = a.right_number in let some = some_number refusal in absurd (omega arith)
  is_no refusal q false a = (refl, a.right_number)

  -- what `?` passes on is check's answer, where no question before it is answered no
  pub refused : {A : Type 0} (r : Result A Refusal) (refusal : Refusal) → IsErr r × IsErrAnd r (λ x. x ≡ refusal)
      → (q : ℕ) (b : Bool) → No refusal q b → (b ≡ false → q ≡ check_number P)
      → CheckAnswer P (number_of r) (item_of r)
  refused (Ok _) refusal passed q b a first = absurd passed.1
  refused (Err _) refusal passed q b a first =
      let (fails, number) = is_no refusal q b a in
      let right = number ∙ first fails in
      rw passed.1 (record { right_number = right; right_item = a.right_item ∙ ap (fault_item P) right })

  -- ---- which question is the first that is answered no
  pub first_1 : sizes_ok P ≡ false → 1 ≡ check_number P
  unfolding check_number
  first_1 fails = rw fails

  module _ (sizes : Yes 1 (sizes_ok P)) where
    sizes_yes : sizes_ok P ≡ true
    sizes_yes = is_yes 1 (sizes_ok P) (omega arith) sizes

    pub first_2 : every (expr_ok P) (below (expr_count P.exprs)) ≡ false → 2 ≡ check_number P
    unfolding check_number
    first_2 fails = rw (sizes_yes, fails)

    module _ (exprs : Yes 2 (every (expr_ok P) (below (expr_count P.exprs)))) where
      exprs_yes : every (expr_ok P) (below (expr_count P.exprs)) ≡ true
      exprs_yes = is_yes 2 _ (omega arith) exprs

      pub first_3 : every (node_ok P.nodes) (below (node_count P.nodes)) ≡ false → 3 ≡ check_number P
      unfolding check_number
      first_3 fails = rw (sizes_yes, exprs_yes, fails)

      module _ (nodes : Yes 3 (every (node_ok P.nodes) (below (node_count P.nodes)))) where
        nodes_yes : every (node_ok P.nodes) (below (node_count P.nodes)) ≡ true
        nodes_yes = is_yes 3 _ (omega arith) nodes

        pub first_4 : every (references_ok P) (below (node_count P.nodes)) ≡ false → 4 ≡ check_number P
        unfolding check_number
        first_4 fails = rw (sizes_yes, exprs_yes, nodes_yes, fails)

        module _ (ranges : Yes 4 (every (references_ok P) (below (node_count P.nodes)))) where
          ranges_yes : every (references_ok P) (below (node_count P.nodes)) ≡ true
          ranges_yes = is_yes 4 _ (omega arith) ranges

          pub first_11 : widths_ok P ≡ false → 11 ≡ check_number P
          unfolding check_number
          first_11 fails = rw (sizes_yes, exprs_yes, nodes_yes, ranges_yes, fails)

          -- no question is answered no
          pub none_no : Yes 11 (widths_ok P) → check_number P ≡ 0
          unfolding check_number
          none_no widths =
              rw (sizes_yes, exprs_yes, nodes_yes, ranges_yes, is_yes 11 (widths_ok P) (omega arith) widths)
