-- An end theorem of this crate: the order rule (`OrderRule` of the rules' proofs) said again of calls of run. Take any
-- two calls that keep run's promise, on one accepted program and one state that questions 5 and 6 let by, with the same
-- number of cycles asked. Their results are equal (number, item, cycles worked and the three lists) exactly when their
-- books first go wrong at the same cycle, or neither does. On any other program or state all calls of run have one
-- result, whatever their books and cycles. Both are said once of these numbers and lists, and once of the Result that run
-- hands back in Rattle beside the lists.
-- Run's promise and the rules' theorems are all that it needs: the promise leaves nothing free.
use mathlib.Core.Path.{◌≡◌, sym, ap, ◌∙◌}
use mathlib.Core.Bool.{true}
use mathlib.Core.List.{List}
use mathlib.Core.Logic.{◌↔◌}
use Prim.Native.Nat.{ℕ}
use Rattle.std.specs.Prelude.{Result}
use Rattle.semantics.specs.Program.{Program}
use Rattle.semantics.specs.Check.{check_number}
use Rattle.semantics.specs.State.{State, lengths_ok, well_formed}
use Rattle.semantics.specs.Calls.{Answer}
use Rattle.semantics.specs.Book.{first_wrong}
use Rattle.semantics.specs.Facts.{Ready}
use Rattle.semantics.proofs.Order.OrderRule.{order_rule}
use Rattle.semantics.proofs.Order.RunTheorems.{refused_alike}
use Rattle.player.specs.declared.Stopped.{Stopped}
use Rattle.player.proofs.OneResult.{RunGives, RunGivesResult, answer_in, same_runs, rules_answer}

pub order_of_runs : (P : Program) → check_number P ≡ 0
    → (s : State) → lengths_ok P s ≡ true → well_formed P s ≡ true
    → (cycles : ℕ) (b d : List ℕ) (r t : Answer) → RunGives P cycles s b r → RunGives P cycles s d t
    → (r ≡ t) ↔ (first_wrong P cycles s b ≡ first_wrong P cycles s d)
order_of_runs P accepted s fit formed cycles b d r t g h =
    let rule = order_rule P accepted s fit formed cycles b d in (
      λ e. rule.0 (sym (rules_answer g) ∙ e ∙ rules_answer h),
      λ e. rules_answer g ∙ rule.1 e ∙ sym (rules_answer h),
    )

pub refused_runs : (P : Program) (s : State) → ¬ ((check_number P ≡ 0) × Ready P s)
    → (m n : ℕ) (b d : List ℕ) (r t : Answer) → RunGives P m s b r → RunGives P n s d t → r ≡ t
refused_runs P s not-ready m n b d r t g h =
    rules_answer g ∙ refused_alike P s not-ready m n b d ∙ sym (rules_answer h)

-- ---- of the Result and the lists

pub order_of_results : (P : Program) → check_number P ≡ 0
    → (s : State) → lengths_ok P s ≡ true → well_formed P s ≡ true
    → (cycles : ℕ) (b d : List ℕ) (r t : Result ℕ Stopped × State)
    → RunGivesResult P cycles s b r → RunGivesResult P cycles s d t
    → (r ≡ t) ↔ (first_wrong P cycles s b ≡ first_wrong P cycles s d)
order_of_results P accepted s fit formed cycles b d r t g h =
    let rule = order_of_runs P accepted s fit formed cycles b d (answer_in r) (answer_in t) g h in (
      λ e. rule.0 (ap answer_in e),
      λ e. same_runs r t (rule.1 e),
    )

pub refused_results : (P : Program) (s : State) → ¬ ((check_number P ≡ 0) × Ready P s)
    → (m n : ℕ) (b d : List ℕ) (r t : Result ℕ Stopped × State)
    → RunGivesResult P m s b r → RunGivesResult P n s d t → r ≡ t
refused_results P s not-ready m n b d r t g h =
    same_runs r t (refused_runs P s not-ready m n b d (answer_in r) (answer_in t) g h)
