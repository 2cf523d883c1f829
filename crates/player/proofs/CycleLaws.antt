-- What the code of a cycle may rely on: its entries are marked nodes, their names are in range, and its expressions can
-- be worked.
use mathlib.Core.Path.{◌≡◌, refl, sym, ap, ◌∙◌, subst}
use mathlib.Core.Bool.{Bool, true, false, true≢false, cond, ◌&&◌}
use mathlib.Core.List.{List, [], ◌∷◌, foldl}
use Prim.Native.Nat.{ℕ, ◌+◌, ◌*◌, ◌≤◌, ◌<◌}
use native.Mathlib.Nat.{lt_of_lt_of_le}
use native.Mathlib.Numerals.{add-one}
use native.Mathlib.Omega.{arith}
use lib.Dec.{leb}
use lib.ListN.{length, get_or, set, drop, replicate, length-set, length-replicate}
use lib.Seq.{drop-cons}
use Rattle.semantics.specs.Numbers.{below, filter}
use Rattle.semantics.specs.Program.{Program, Kind, Leaf, expr_count, node_count, a_at, b_at, leaf_test}
use Rattle.semantics.specs.Program.Kind.{SEQ, PAR, IF, WHL, LEAF, UNKNOWN}
use Rattle.semantics.specs.Program.Leaf.{ASG, IN, OUT, DLY}
use Rattle.semantics.specs.Check.{references_ok}
use Rattle.semantics.specs.State.{marked, active}
use Rattle.semantics.specs.Completion.{is_asg, is_in, is_out}
use Rattle.semantics.specs.Facts.{Accepted}
use Rattle.semantics.proofs.Lists.Logic.{and_left, and_right}
use Rattle.semantics.proofs.Lists.NumberLaws.{filter-filter}
use Rattle.semantics.proofs.Run.EntriesLaws.{active_means}
use Rattle.semantics.proofs.Lists.ActiveLaws.{marked_below}
use Rattle.semantics.proofs.Run.EntryCounts.{entry_count}
use Rattle.semantics.proofs.Lists.LeafKinds.{asg_names, in_names, out_names}
use Rattle.player.specs.declared.claims.Claims.{Claims}
use Rattle.player.specs.Entries.{set_all}
use Rattle.player.specs.Channels.{marks_of, CycleOf, Paired, PairedEntry, has_kind}
use Rattle.player.proofs.MarkLaws.{mark_count-most}

-- ---- what passes a test

filter-first : (f : ℕ → Bool) (xs : List ℕ) (y : ℕ) (ys : List ℕ) → filter f xs ≡ y ∷ ys → f y ≡ true
unfolding filter
filter-first f [] y ys e = absurd (let z : ◌≡◌ {A = ℕ} 0 1 = cc in omega arith)
filter-first f (x ∷ xs) y ys e = pick (f x) refl e (filter-first f xs y ys)
  where
    pick : (b : Bool) → f x ≡ b → cond b (x ∷ filter f xs) (filter f xs) ≡ y ∷ ys
        → (filter f xs ≡ y ∷ ys → f y ≡ true) → f y ≡ true
    pick true h q later = let same : x ≡ y = cc in subst (λ (k : ℕ). f k ≡ true) same h
    pick false h q later = later q

-- the first of the active statements that pass a test
pub first_active : (marks : List ℕ) (f : ℕ → Bool) (y : ℕ) (ys : List ℕ) → filter f (active marks) ≡ y ∷ ys
    → (marked marks y ≡ true) × (f y ≡ true)
first_active marks f y ys e =
    let all = sym (filter-filter (marked marks) f (below (length marks))) ∙ e in
    let h = filter-first (λ i. marked marks i && f i) (below (length marks)) y ys all in
    (and_left _ _ h, and_right (marked marks y) _ h)

-- ---- the entries

-- a fold over the entries from k on
pub fold_next : {A : Type 0} (step : A → ℕ → A) (a : A) (entries : List ℕ) (k : ℕ) → k < length entries
    → foldl step a (drop k entries) ≡ foldl step (step a (get_or entries k 0)) (drop (k + 1) entries)
fold_next step a entries k l = rw (add-one k, drop-cons entries k 0 l)

-- ---- the marks of entries

set_all-length : (word : ℕ) (marks es : List ℕ) → length (set_all word marks es) ≡ length marks
set_all-length word marks [] = refl
set_all-length word marks (e ∷ es) = set_all-length word (set marks e word) es ∙ length-set marks e word

pub marks_of-length : (P : Program) (entries : List ℕ) → length (marks_of P entries) ≡ node_count P.nodes
unfolding marks_of
marks_of-length P entries =
    set_all-length 1 (replicate (node_count P.nodes) 0) entries ∙ length-replicate {A = ℕ} (node_count P.nodes) 0

-- ---- kinds of leaves

test_fails : (f : Leaf → Bool) (k : Kind) → ((l : Leaf) → k ≡ LEAF l → f l ≡ false) → leaf_test f k ≡ false
test_fails f (LEAF l) h = h l refl
test_fails f SEQ h = refl
test_fails f PAR h = refl
test_fails f IF h = refl
test_fails f WHL h = refl
test_fails f UNKNOWN h = refl

-- a kind that passes the test of IN is that of an IN
pub leaf_in : (k : Kind) → leaf_test is_in k ≡ true → k ≡ LEAF IN
leaf_in (LEAF l) passed =
    elim l as (λ (l : Leaf). is_in l ≡ true → LEAF l ≡ LEAF IN) [
      | ASG ↦ λ e. absurd (true≢false (sym e))
      | IN ↦ λ e. refl
      | OUT ↦ λ e. absurd (true≢false (sym e))
      | DLY ↦ λ e. absurd (true≢false (sym e))
    ] passed
leaf_in SEQ passed = absurd (true≢false (sym passed))
leaf_in PAR passed = absurd (true≢false (sym passed))
leaf_in IF passed = absurd (true≢false (sym passed))
leaf_in WHL passed = absurd (true≢false (sym passed))
leaf_in UNKNOWN passed = absurd (true≢false (sym passed))

-- a kind that is not that of a leaf fails its test
module _ (k : Kind) where
  pub no_in : (k ≡ LEAF IN → ⊥) → leaf_test is_in k ≡ false
  no_in n = test_fails is_in k
      (λ l. elim l as (λ l. k ≡ LEAF l → is_in l ≡ false)
      [ ASG ↦ λ e. refl | IN ↦ λ e. absurd (n e) | OUT ↦ λ e. refl | DLY ↦ λ e. refl ])

  pub no_out : (k ≡ LEAF OUT → ⊥) → leaf_test is_out k ≡ false
  no_out n = test_fails is_out k
      (λ l. elim l as (λ l. k ≡ LEAF l → is_out l ≡ false)
      [ ASG ↦ λ e. refl | IN ↦ λ e. refl | OUT ↦ λ e. absurd (n e) | DLY ↦ λ e. refl ])

-- ---- the names of a node

module _ {P : Program} (ok : Accepted P) (i : ℕ) (l : i < node_count P.nodes) where
  abbrev word : ℕ
  word = get_or P.nodes (5 * i) 0

  names : references_ok P i ≡ true
  names = ok.ranges_ok i l

  -- the channel of an IN or OUT
  pub node_in_channel : has_kind P.nodes is_in i ≡ true → a_at P.nodes i < P.channels
  node_in_channel k = (in_names P word (a_at P.nodes i) (b_at P.nodes i) names k).0

  pub node_out_channel : has_kind P.nodes is_out i ≡ true → a_at P.nodes i < P.channels
  node_out_channel k = (out_names P word (a_at P.nodes i) (b_at P.nodes i) names k).0

  -- the variable of an ASG or IN
  pub node_asg_variable : has_kind P.nodes is_asg i ≡ true → a_at P.nodes i < P.variables
  node_asg_variable k = (asg_names P word (a_at P.nodes i) (b_at P.nodes i) names k).0

  pub node_in_variable : has_kind P.nodes is_in i ≡ true → b_at P.nodes i < P.variables
  node_in_variable k = (in_names P word (a_at P.nodes i) (b_at P.nodes i) names k).1

  -- the expression of an ASG or OUT
  pub node_asg_expression : has_kind P.nodes is_asg i ≡ true → b_at P.nodes i < expr_count P.exprs
  node_asg_expression k = (asg_names P word (a_at P.nodes i) (b_at P.nodes i) names k).1

  pub node_out_expression : has_kind P.nodes is_out i ≡ true → b_at P.nodes i < expr_count P.exprs
  node_out_expression k = (out_names P word (a_at P.nodes i) (b_at P.nodes i) names k).1

  -- a slot has the number of each channel
  pub node_in_fits : has_kind P.nodes is_in i ≡ true → a_at P.nodes i < 256
  node_in_fits k = lt_of_lt_of_le (node_in_channel k) ok.sizes.channels_fit

  pub node_out_fits : has_kind P.nodes is_out i ≡ true → a_at P.nodes i < 256
  node_out_fits k = lt_of_lt_of_le (node_out_channel k) ok.sizes.channels_fit

-- ---- the entries of a cycle

module _ {P : Program} {entries : List ℕ} (x : CycleOf P entries) where
  abbrev marks : List ℕ
  marks = marks_of P entries

  pub entry_marked : (k : ℕ) → k < length entries → marked marks (get_or entries k 0) ≡ true
  entry_marked = ((active_means marks entries).0 x.entries_active).each_marked

  pub entries_few : length entries ≤ 1024
  entries_few =
      let many = ((active_means marks entries).0 x.entries_active).as_many in
      let few = mark_count-most marks in
      let fit = marks_of-length P entries in
      let nodes-fit = x.accepted.sizes.nodes_fit in
      omega arith

  -- at most one active statement passes a test when at most one entry does
  pub single_entries : (f : ℕ → Bool)
      → leb (length (filter f (active marks))) 1 ≡ leb (length (filter f entries)) 1
  single_entries f = ap (λ (n : ℕ). leb n 1) (sym (entry_count marks entries x.entries_active f))

  pub marked_node : (i : ℕ) → marked marks i ≡ true → i < node_count P.nodes
  marked_node i m = subst (λ (n : ℕ). i < n) (marks_of-length P entries) (marked_below marks i m)

-- ---- a marked node

-- the entry at an index
abbrev pub entry_at : {P : Program} {entries : List ℕ} {claims : Claims} (x : CycleOf P entries) → Paired P entries claims
    → (k : ℕ) → k < length entries → PairedEntry P claims (get_or entries k 0)
entry_at {P} {entries} x p k l =
    let m = entry_marked x k l in
    record { entries = entries; cycle = x; paired = p; within = marked_node x (get_or entries k 0) m; is_marked = m }
