-- The first n stores of a cycle are made, in the values and in what `work` has of them, and can be taken back.
use Rattle.std.proofs.Common.{◌≡◌, ℕ, ◌+◌, ◌≤◌, ◌<◌, Bool, false, not, ◌||◌, eqb, List, length, get_or, set}
use Rattle.std.proofs.Common.{take, [], ◌∷◌, ◌++◌, refl, sym, ap, ◌∙◌, inl, inr, arith, subst}
use Rattle.std.proofs.Common.{length-set, length-append, get_or-set_same, get_or-set_other}
use Rattle.std.specs.List.{refill}
use Rattle.std.proofs.lemmas.List.{set-get_or, get_or_append_left, take_all, take_more_set}
use Rattle.std.proofs.Math.Seq.{set-set}
use borrow.Author.Tests.{eqb-true, eqb-false, not-false}
use Rattle.arrayvec.proofs.ArrayVecLemmas.{items-with_items}
use Rattle.semantics.proofs.Lists.Logic.{or_left, or_right, true_or_false}
use Rattle.player.specs.declared.stores.Store.{Store}
use Rattle.player.specs.declared.memo.Memo.{Memo}
use Rattle.player.specs.declared.work.Work.{Work}
use Rattle.player.specs.Memo.{Known, Unworked, Holds}
use Rattle.player.specs.Work.{masked_by}
use Rattle.player.specs.Stores.{put_all, listed_store, variable_at, comes_to, taken_back, HeldFit, Stored}
use Rattle.player.proofs.MemoLaws.{known_unworked, known_rewritten}
use Rattle.player.proofs.HeldLaws.{no_store, take_next, put_last, back_last}

-- two lists that are read alike, of which one element is written
alike-set : (v value : ℕ) (xs ys : List ℕ) → v < length xs → v < length ys
    → ((j : ℕ) → get_or xs j 0 ≡ get_or ys j 0) → (j : ℕ) → get_or (set xs v value) j 0 ≡ get_or (set ys v value) j 0
alike-set v value xs ys a b h j =
    elim (true_or_false (eqb j v)) [
      | inl e ↦
          let here : j ≡ v = eqb-true j v e in
          rw here (get_or-set_same xs v value 0 a ∙ sym (get_or-set_same ys v value 0 b))
      | inr e ↦
          let n = eqb-false j v e in
          get_or-set_other xs v j value 0 n ∙ h j ∙ sym (get_or-set_other ys v j value 0 n)
    ]

-- an element that is written and written back
set_back : (values : List ℕ) (v value : ℕ) → set (set values v value) v (get_or values v 0) ≡ values
set_back values v value = set-set values v value (get_or values v 0) ∙ set-get_or values v 0

-- the variables of what a run keeps, changed
abbrev with_variables : Work → List ℕ → Work
with_variables work variables = record work { memo = record work.memo { variables = variables } }

module _ (old : List ℕ) (before : Work) (listed : List Store) where
  -- The first n of the listed stores are made, and their old values are held.
  pub record StoredTo (changed : Bool) (values : List ℕ) (work : Work) (list : List Store) (n : ℕ) : Type 0 where
    pub fit : HeldFit old listed
    pub within : n ≤ length listed
    pub values_size : length values ≡ length old
    pub size : length work.memo.variables ≡ 256
    pub as_many : length list ≡ length listed
    pub right : values ≡ put_all (masked_by before) (take n listed) old
    pub variables : Holds values work.memo
    pub kept : work ≡ with_variables before work.memo.variables
    pub same : changed ≡ false → values ≡ old
    pub targets : (j : ℕ) → variable_at list j ≡ variable_at listed j
    pub ahead : (j : ℕ) → n ≤ j → listed_store list j ≡ listed_store listed j
    pub back : taken_back (take n list) values ≡ old

  pub stored_none : HeldFit old listed → length before.memo.variables ≡ 256 → Holds old before.memo
      → StoredTo false old before listed 0
  stored_none fit size h = record {
    fit = fit;
    within = omega arith;
    values_size = refl;
    size = size;
    as_many = refl;
    right = refl;
    variables = h;
    kept = refl;
    same = λ r. refl;
    targets = λ j. refl;
    ahead = λ j l. refl;
    back = refl;
  }

  -- store n is made
  module _ {changed : Bool} {values : List ℕ} {work : Work} {list : List Store} {n : ℕ}
      (h : StoredTo changed values work list n) (l : n < length listed) where
    abbrev target : ℕ
    target = variable_at list n

    abbrev value : ℕ
    value = comes_to work (listed_store list n)

    abbrev was : ℕ
    was = get_or values target 0

    abbrev held : Store
    held = record (listed_store list n) { value = was }

    made : set values target value ≡ put_all (masked_by before) (take (n + 1) listed) old
    made =
        let first = h.right in
        let here = h.ahead n (omega arith) in
        let mask = ap (λ (w : Work). w.masks) h.kept in
        (λ i. set (first i) (here i).variable.0 (comes_to (record work { masks = mask i }) (here i)))
        ∙ sym (put_last (take n listed) (listed_store listed n) old (masked_by before))
        ∙ ap (λ (list : List Store). put_all (masked_by before) list old) (sym (take_next listed n l))

    pub stored_more : target < length values → target < 256
        → StoredTo (not (eqb was value) || changed) (set values target value)
        (with_variables work (set work.memo.variables target value)) (set list n held) (n + 1)
    stored_more inside few =
        let room : n < length list = omega (arith, h.as_many) in
        record {
          fit = h.fit;
          within = omega arith;
          values_size = length-set values target value ∙ h.values_size;
          size = length-set work.memo.variables target value ∙ h.size;
          as_many = length-set list n held ∙ h.as_many;
          right = made;
          variables =
              alike-set target value work.memo.variables values (omega (arith, h.size)) inside h.variables;
          kept = ap (λ (w : Work). with_variables w (set work.memo.variables target value)) h.kept;
          same = λ r.
              let differs = not (eqb was value) in
              let still = eqb-true was value (not-false _ (or_left differs changed r)) in
              ap (set values target) (sym still) ∙ set-get_or values target 0 ∙ h.same (or_right differs changed r);
          targets = λ j. elim (true_or_false (eqb j n)) [
            | inl e ↦
                let at : j ≡ n = eqb-true j n e in
                rw at (ap (λ (s : Store). s.variable.0) (get_or-set_same list n held no_store room) ∙ h.targets n)
            | inr e ↦
                ap (λ (s : Store). s.variable.0) (get_or-set_other list n j held no_store (eqb-false j n e))
                ∙ h.targets j
          ];
          ahead = λ j m.
              get_or-set_other list n j held no_store (λ (e : j ≡ n). omega arith) ∙ h.ahead j (omega arith);
          back =
              ap (λ (list : List Store). taken_back list (set values target value)) (take_more_set list n held room)
              ∙ back_last (take n list) held (set values target value)
              ∙ ap (taken_back (take n list)) (set_back values target value) ∙ h.back;
        }

-- ---- the stores of a cycle

module _ {old : List ℕ} {before : Work} {listed : List Store} {changed : Bool} {values : List ℕ} {work : Work}
    {list : List Store} {n : ℕ} (h : StoredTo old before listed changed values work list n) where
  target_inside : (j : ℕ) → j < length listed → variable_at list j < length values
  target_inside j l =
      let inside = h.fit.targets j l in
      let same = h.targets j in
      let sizes = h.values_size in
      omega arith

  pub stored_target : n < length listed → (variable_at list n < length values) × (variable_at list n < 256)
  stored_target l =
      let inside = target_inside n l in
      let sizes = h.values_size in
      let most = h.fit.values_fit in
      (inside, omega arith)

  -- the variables alone are written
  memo_after : work.memo ≡ record before.memo { variables = work.memo.variables }
  memo_after = ap (λ (w : Work). w.memo) h.kept

  pub stored_past : ((e : ℕ) → e < 1024 → get_or before.memo.moments e 0 ≤ before.memo.present)
      → (e : ℕ) → e < 1024 → get_or work.memo.moments e 0 ≤ work.memo.present
  stored_past past =
      subst (λ (m : Memo). (e : ℕ) → e < 1024 → get_or m.moments e 0 ≤ m.present) (sym memo_after) past

  -- all are made; what a vector has after a loop over its elements as a slice are these elements
  module _ (l : length listed ≤ n) where
    abbrev left : List Store
    left = refill (length listed) listed list

    stored-all : {memo : Memo} → Holds values memo → ((exprs : List ℕ) → Known exprs before.memo → Known exprs memo)
        → Stored old before listed values (record work { memo = memo }) left
    stored-all {memo} holds known = rw (items-with_items (record { items = listed }) list h.as_many) (record {
      right = h.right ∙ ap (λ (list : List Store). put_all (masked_by before) list old) (take_all n listed l);
      holds = holds;
      known = known;
      kept = ap (λ (w : Work). record w { memo = memo }) h.kept;
      fit = record {
        values_fit = let most = h.fit.values_fit in let sizes = h.values_size in omega arith;
        targets = λ j m. target_inside j (omega (arith, h.as_many));
      };
      back = ap (λ (list : List Store). taken_back list values) (sym (take_all n list (omega (arith, h.as_many))))
          ∙ h.back;
    })

    -- a new moment follows
    pub stored_moment : {memo : Memo} → Unworked work.memo memo
        → Stored old before listed values (record work { memo = memo }) left
    stored_moment {memo} u =
        stored-all (λ v. rw u.variables (h.variables v)) (λ exprs k. known_unworked exprs work.memo memo u)

    -- no value has changed
    pub stored_same : Holds old before.memo → changed ≡ false → Stored old before listed values work left
    stored_same holds no_change =
        stored-all h.variables (λ exprs k.
        subst (Known exprs) (sym memo_after)
        (known_rewritten exprs before.memo work.memo.variables h.size
        (λ v. h.variables v ∙ rw (h.same no_change) (sym (holds v))) k))

-- ---- the stores are taken back, the last first

-- What is left to take back leads from these values to those from before the stores.
pub record LeftToRestore (start : List ℕ) (listed : List Store) (values : List ℕ) (rest : List Store) : Type 0 where
  pub targets : (j : ℕ) → j < length rest → variable_at rest j < length values
  pub back : taken_back rest values ≡ taken_back listed start

pub restore_start : {values : List ℕ} {listed : List Store} → HeldFit values listed
    → LeftToRestore values listed values listed
restore_start fit = record { targets = fit.targets; back = refl }

module _ {start values : List ℕ} {listed : List Store} (rest : List Store) (store : Store) (more : List Store)
    (h : LeftToRestore start listed values more) (split : more ≡ rest ++ store ∷ []) where
  first_stores : (j : ℕ) → j < length rest → listed_store more j ≡ listed_store rest j
  first_stores j l =
      ap (λ (xs : List Store). listed_store xs j) split ∙ get_or_append_left rest (store ∷ []) no_store j l

  pub restore_more : LeftToRestore start listed (set values store.variable.0 store.value) rest
  restore_more = record {
    targets = λ j l.
        let all : length more ≡ length rest + 1 = ap length split ∙ length-append rest (store ∷ []) in
        let inside =
        subst (λ (s : Store). s.variable.0 < length values) (first_stores j l) (h.targets j (omega arith)) in
        omega (arith, length-set values store.variable.0 store.value);
    back = sym (back_last rest store values)
        ∙ ap (λ (list : List Store). taken_back list values) (sym split) ∙ h.back;
  }
