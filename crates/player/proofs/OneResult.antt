-- An end theorem of this crate: a call is a function of what it is lent. Take any two results that keep a call's
-- promise for the same program, state, number of cycles and book: they are equal. It is said once of the number, item
-- and lists of check, begin and run, once of the Result that each of them hands back in Rattle, and of that of accept
-- with the lists in place of the accepted program, once of what they hand to C, where number, item and cycles worked
-- are in one word, and once of take_turn, which is lent a node.
use mathlib.Core.Path.{◌≡◌, refl, sym, ap, ◌∙◌}
use mathlib.Core.Bool.{Bool, true, false}
use mathlib.Core.List.{List}
use Prim.Native.Nat.{ℕ, ◌+◌, ◌*◌}
use native.Mathlib.Omega.{arith}
use Rattle.std.specs.Prelude.{Result, Ok, Err, Option, Some, None, IfOk, ⊤, cond, eqb}
use Rattle.semantics.specs.Program.{Program}
use Rattle.semantics.specs.State.{State, lengths_ok}
use Rattle.semantics.specs.Climb.{Turn as RulesTurn}
use Rattle.semantics.specs.Climb.Turn.{leaves_next, over}
use Rattle.semantics.specs.Calls.{Answer, run_answer}
use Rattle.semantics.proofs.Lists.OneResult.{OneResult, determined}
use Rattle.program.specs.Answer.{program_in, CheckAnswer, number_of, item_of}
use Rattle.program.specs.declared.Program.{Program as Lists}
use Rattle.program.specs.Word.{number_in, item_in}
use Rattle.program.proofs.AnswerLaws.{word_of_parts, number_not_0, ok_alone, refusal_of, refusal_told, result_of, result_told}
use Rattle.player.specs.Begin.{BeginAnswer}
use Rattle.player.specs.Run.{RunAnswer, number_of_run, item_of_run, worked_by}
use Rattle.player.specs.declared.Stopped.{Stopped}
use Rattle.player.specs.Word.{item_of_run_in, worked_in}
use Rattle.player.specs.Turn.{turn_in, TurnAnswer}
use Rattle.player.specs.Walks.{walk, turn_to}
use Rattle.player.specs.declared.Turn.{Turn}
use Rattle.program.specs.declared.refusal.Refusal.{Refusal}
use Rattle.program.specs.declared.refusal.Refusal.TheVariants.{Lengths}

-- ---- what the calls hand back, and that it keeps their promises

pub record CheckResult : Type 0 where
  pub number : ℕ
  pub item : ℕ

abbrev pub CheckGives : Program → CheckResult → Type 0
CheckGives P r = CheckAnswer P r.number r.item

pub record BeginResult : Type 0 where
  pub number : ℕ
  pub item : ℕ
  pub marks : List ℕ
  pub counts : List ℕ

abbrev pub BeginGives : Program → State → BeginResult → Type 0
BeginGives P s r = BeginAnswer P s r.number r.item r.marks r.counts

-- run hands back what an answer of the rules has
abbrev pub RunGives : Program → ℕ → State → List ℕ → Answer → Type 0
RunGives P cycles s book r = RunAnswer P cycles s book r.number r.item r.worked r.state

-- ---- in Rattle

abbrev pub CheckGivesResult : Program → Result ⊤ Refusal → Type 0
CheckGivesResult P r = CheckAnswer P (number_of r) (item_of r)

-- the lists that accept hands back; the proof that comes with them is left out
abbrev pub AcceptGivesResult : Lists → Result Lists Refusal → Type 0
AcceptGivesResult lists r = CheckAnswer (program_in lists) (number_of r) (item_of r) × IfOk r (λ accepted. accepted ≡ lists)

-- the Result, marks and counts
abbrev pub BeginGivesResult : Program → State → (Result ⊤ Refusal × List ℕ × List ℕ) → Type 0
BeginGivesResult P s (r, marks, counts) = BeginAnswer P s (number_of r) (item_of r) marks counts

-- the Result and the three lists
abbrev pub answer_in : (Result ℕ Stopped × State) → Answer
answer_in (r, s') = record { number = number_of_run r; item = item_of_run r; worked = worked_by r; state = s' }

abbrev pub RunGivesResult : Program → ℕ → State → List ℕ → (Result ℕ Stopped × State) → Type 0
RunGivesResult P cycles s book r = RunGives P cycles s book (answer_in r)

-- ---- to C

abbrev pub CheckGivesWord : Program → ℕ → Type 0
CheckGivesWord P word = CheckAnswer P (number_in word) (item_in word)

-- the word, marks and counts
abbrev pub BeginGivesWord : Program → State → (ℕ × List ℕ × List ℕ) → Type 0
BeginGivesWord P s (word, marks, counts) = BeginAnswer P s (number_in word) (item_in word) marks counts

-- the word and the three lists
abbrev pub RunGivesWord : Program → ℕ → State → List ℕ → (ℕ × State) → Type 0
RunGivesWord P cycles s book (word, s') =
    RunAnswer P cycles s book (number_in word) (item_of_run_in word) (worked_in word) s'

-- ---- one turn, in Rattle alone

pub record TurnResult : Type 0 where
  pub answer : Result Turn Refusal
  pub marks : List ℕ
  pub counts : List ℕ

abbrev pub TurnGives : Program → State → ℕ → TurnResult → Type 0
TurnGives P s i r = TurnAnswer P s i r.answer r.marks r.counts

-- what is handed back: where question 5 is answered no, and else by what the rules' turn comes to
abbrev turn_result : State → Bool → RulesTurn → TurnResult
turn_result s false t = record { answer = Err Lengths; marks = s.marks; counts = s.counts }
turn_result s true (leaves_next j w) =
    record { answer = Ok (record { next = Some j; looped = w.looped }); marks = w.marks; counts = w.counts }
turn_result s true (over w) =
    record { answer = Ok (record { next = None; looped = w.looped }); marks = w.marks; counts = w.counts }

-- ---- the theorem

pub rules_answer : {P : Program} {cycles : ℕ} {s : State} {book : List ℕ} {r : Answer} → RunGives P cycles s book r
    → r ≡ run_answer P cycles s book
rules_answer g = λ i. record {
  number = g.right_number i;
  item = g.right_item i;
  worked = g.right_worked i;
  state = record { values = g.right_values i; marks = g.right_marks i; counts = g.right_counts i };
}

-- a word is made of its parts
word_of_run : (word : ℕ) {number item worked : ℕ} → number_in word ≡ number → item_of_run_in word ≡ item
    → worked_in word ≡ worked → word ≡ number + 65536 * (item + 65536 * worked)
word_of_run word n i w =
    let above : item_in (item_in word) ≡ worked_in word = omega arith in
    word_of_parts word n (word_of_parts (item_in word) i (above ∙ w))

-- a run's Result and state, told by an answer
abbrev run_of : Answer → Result ℕ Stopped × State
run_of a =
    (cond (eqb a.number 0) (Ok a.worked) (Err (record { refusal = refusal_of a.number a.item; worked = a.worked })), a.state)

run_told : (r : Result ℕ Stopped) (s' : State) → (r, s') ≡ run_of (answer_in (r, s'))
run_told (Ok worked) s' = refl
run_told (Err stopped) s' =
    rw (number_not_0 stopped.refusal)
    (λ i. (Err (record { refusal = refusal_told stopped.refusal i; worked = stopped.worked }), s'))

-- two runs with the same numbers and lists have the same Result
pub same_runs : (r t : Result ℕ Stopped × State) → answer_in r ≡ answer_in t → r ≡ t
same_runs r t e = run_told r.0 r.1 ∙ ap run_of e ∙ sym (run_told t.0 t.1)

turn_taken : (s : State) (next : Option ℕ) (looped : Bool) (marks counts : List ℕ)
    → record { answer = Ok (record { next = next; looped = looped }); marks = marks; counts = counts }
    ≡ turn_result s true (turn_to next (walk marks counts looped))
turn_taken s None looped marks counts = refl
turn_taken s (Some j) looped marks counts = refl

rules_turn : (P : Program) (s : State) (i : ℕ) (a : Result Turn Refusal) (marks counts : List ℕ)
    → TurnAnswer P s i a marks counts
    → record { answer = a; marks = marks; counts = counts } ≡ turn_result s (lengths_ok P s) (turn_in P s i)
rules_turn P s i (Ok t) marks counts g = rw (g.fit, g.right) (turn_taken s t.next t.looped marks counts)
rules_turn P s i (Err refusal) marks counts g = rw (g.unfit, g.question, g.marks_kept, g.counts_kept) refl

pub one_turn : (P : Program) (s : State) (i : ℕ) → OneResult (TurnGives P s i)
one_turn P s i = determined (λ r g. rules_turn P s i r.answer r.marks r.counts g)

module _ (P : Program) (s : State) (cycles : ℕ) (book : List ℕ) where
  pub one_result : OneResult (CheckGives P) × OneResult (BeginGives P s) × OneResult (RunGives P cycles s book)
  one_result = (
    determined (λ r g i. record { number = g.right_number i; item = g.right_item i }),
    determined (λ r g i. record {
      number = g.right_number i;
      item = g.right_item i;
      marks = g.right_marks i;
      counts = g.right_counts i;
    }),
    determined (λ r. rules_answer),
  )

  pub one_given : (lists : Lists) → OneResult (CheckGivesResult P) × OneResult (AcceptGivesResult lists)
      × OneResult (BeginGivesResult P s) × OneResult (RunGivesResult P cycles s book)
  one_given lists = (
    determined (λ r g. result_told tt r (ok_alone r) ∙ (λ i. result_of tt (g.right_number i) (g.right_item i))),
    determined (λ r g. result_told lists r g.1 ∙ (λ i. result_of lists (g.0.right_number i) (g.0.right_item i))),
    determined (λ r g. (λ i. (result_told tt r.0 (ok_alone r.0) i, r.1, r.2))
        ∙ (λ i. (
          result_of tt (g.right_number i) (g.right_item i),
          g.right_marks i,
          g.right_counts i,
        ))),
    λ r t g h. same_runs r t (one_result.2 (answer_in r) (answer_in t) g h),
  )

  pub one_word : OneResult (CheckGivesWord P) × OneResult (BeginGivesWord P s)
      × OneResult (RunGivesWord P cycles s book)
  one_word = (
    determined (λ word g. word_of_parts word g.right_number g.right_item),
    determined (λ r g i. (
      word_of_parts r.0 g.right_number g.right_item i,
      g.right_marks i,
      g.right_counts i,
    )),
    determined (λ r g i. (
      word_of_run r.0 g.right_number g.right_item g.right_worked i,
      record { values = g.right_values i; marks = g.right_marks i; counts = g.right_counts i },
    )),
  )
