-- Laws of an answer: the item that check gives is that of its number, no refusal has the number 0, the word for C and the
-- Result in Rattle are made of number and item, the answer to a question tells whether it is answered yes, and that to
-- question 1 gives the limits.
use Rattle.std.proofs.Common.{◌≡◌, ℕ, ◌+◌, ◌*◌, ◌<◌, Bool, true, false, eqb, Result, Ok, Err, refl, sym, ap, ◌∙◌, ne_eqb, cond, arith}
use Rattle.std.specs.Prelude.{⊤, IfOk, is_ok}
use Rattle.semantics.specs.Program.{Program}
use Rattle.semantics.specs.Check.{fault_item, sizes_ok}
use Rattle.semantics.specs.Facts.{Sized}
use Rattle.semantics.proofs.Lists.QuestionLaws.{sized_limits}
use Rattle.program.specs.declared.refusal.Refusal.{Refusal}
use Rattle.program.specs.declared.refusal.Refusal.TheVariants.{Sizes, Expr, Node, Reference, Lengths, State, Entries, Channels, Stores, Loop, Width, File, Room}
use Rattle.program.specs.Refusals.{question_number, fault_in}
use Rattle.program.specs.Answer.{CheckAnswer, number_of, item_of, answer_to}
use Rattle.program.specs.Word.{number_in, item_in}

pub check_item_lem : {P : Program} {q item : ℕ} → CheckAnswer P q item → fault_item P q ≡ item
check_item_lem {P} c = ap (fault_item P) c.right_number ∙ sym c.right_item

pub word_of_parts : (word : ℕ) {number item : ℕ} → number_in word ≡ number → item_in word ≡ item
    → word ≡ number + 65536 * item
word_of_parts word n i = omega arith

-- no question has the number 0
pub some_number : (refusal : Refusal) → 0 < question_number refusal
some_number Sizes = omega arith
some_number (Expr i) = omega arith
some_number (Node i) = omega arith
some_number (Reference i) = omega arith
some_number Lengths = omega arith
some_number State = omega arith
some_number Entries = omega arith
some_number Channels = omega arith
some_number Stores = omega arith
some_number Loop = omega arith
some_number (Width v) = omega arith
some_number File = omega arith
some_number Room = omega arith

pub number_not_0 : (refusal : Refusal) → eqb (question_number refusal) 0 ≡ false
number_not_0 refusal = let some = some_number refusal in ne_eqb (question_number refusal) 0 (λ e. omega arith)

-- ---- number and item tell the refusal, and the Result

abbrev pub refusal_of : ℕ → ℕ → Refusal
refusal_of number item =
    cond (eqb number 1) Sizes (cond (eqb number 2) (Expr item) (cond (eqb number 3) (Node item)
    (cond (eqb number 4) (Reference item) (cond (eqb number 5) Lengths (cond (eqb number 6) State
    (cond (eqb number 7) Entries (cond (eqb number 8) Channels (cond (eqb number 9) Stores
    (cond (eqb number 10) Loop (cond (eqb number 11) (Width item) (cond (eqb number 12) File Room)))))))))))

pub refusal_told : (refusal : Refusal) → refusal ≡ refusal_of (question_number refusal) (fault_in refusal)
refusal_told Sizes = refl
refusal_told (Expr i) = refl
refusal_told (Node i) = refl
refusal_told (Reference i) = refl
refusal_told Lengths = refl
refusal_told State = refl
refusal_told Entries = refl
refusal_told Channels = refl
refusal_told Stores = refl
refusal_told Loop = refl
refusal_told (Width v) = refl
refusal_told File = refl
refusal_told Room = refl

-- where it is Ok, it hands back a
abbrev pub result_of : {A : Type 0} → A → ℕ → ℕ → Result A Refusal
result_of a number item = cond (eqb number 0) (Ok a) (Err (refusal_of number item))

pub result_told : {A : Type 0} (a : A) (r : Result A Refusal) → IfOk r (λ x. x ≡ a)
    → r ≡ result_of a (number_of r) (item_of r)
result_told a (Ok x) h = ap Ok h
result_told a (Err refusal) h = rw (number_not_0 refusal) (ap Err (refusal_told refusal))

-- a Result that holds no value holds tt
pub ok_alone : (r : Result ⊤ Refusal) → IfOk r (λ x. x ≡ tt)
ok_alone (Ok x) = refl
ok_alone (Err refusal) = tt

-- ---- the answer to a question

pub answer_to-ok : (passes : Bool) (refusal : Refusal) → Ok tt ≡ answer_to passes refusal → passes ≡ true
answer_to-ok true refusal e = refl
answer_to-ok false refusal e = cc

pub answer_to-err : (passes : Bool) (refusal : Refusal) {given : Refusal} → Err given ≡ answer_to passes refusal
    → (passes ≡ false) × (given ≡ refusal)
answer_to-err true refusal e = cc
answer_to-err false refusal e = (refl, cc)

-- where the answer of question 1 is yes, the sizes are within the limits
pub sized_if_ok : (P : Program) (r : Result ⊤ Refusal) → is_ok r ≡ sizes_ok P → IfOk r (λ _. Sized P)
sized_if_ok P (Ok x) e = sized_limits P (sym e)
sized_if_ok P (Err refusal) e = tt
