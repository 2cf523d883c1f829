-- A list reads as a tree's state when it has the state's word at every node of the tree. The state written out reads
-- so, and a list that reads so is the state written out.
use mathlib.Core.Path.{◌≡◌, refl, sym, ap, ◌∙◌}
use mathlib.Core.List.{List, [], ◌∷◌, reverse_aux}
use Prim.Native.Nat.{ℕ, suc, ◌≤◌, ◌<◌}
use native.Mathlib.Nat.{le_trans, le_refl}
use lib.ListN.{length, get_or, drop}
use lib.Seq.{drop-cons, drop-length}
use Rattle.semantics.specs.Tree.{Stmt, Stmts}
use Rattle.semantics.specs.Tree.Stmt.{leaf, seq, par, ife, whl}
use Rattle.semantics.specs.Tree.Stmts.{nil, cons}
use Rattle.semantics.proofs.Tree.Positions.{end_of, ends_of, end_of-gt, ends_of-ge, Placed, PlacedIn}
use Rattle.semantics.proofs.Walks.TreeState.{StateOf, StateIn}
use Rattle.semantics.proofs.Walks.FlatLists.{Column, leaf_word, node_word, lay_out, lay_out_in, lay_out-past, lay_out_in-past}
use Rattle.semantics.proofs.Walks.FlatLists.{past-length, past_in-length, get_d_after}

abbrev mutual
  pub Reads : Column → List ℕ → (t : Stmt) → StateOf t → Type 0
  Reads c l (leaf i) s = get_or l i 0 ≡ leaf_word c s
  Reads c l (seq i ks) s = (get_or l i 0 ≡ node_word c 0) × ReadsIn c l ks s
  Reads c l (par i ks) s = (get_or l i 0 ≡ node_word c s.0) × ReadsIn c l ks s.1
  Reads c l (ife i e ys ns) s = (get_or l i 0 ≡ node_word c 0) × ReadsIn c l ys s.0 × ReadsIn c l ns s.1
  Reads c l (whl i e ks) s = (get_or l i 0 ≡ node_word c 0) × ReadsIn c l ks s

  pub ReadsIn : Column → List ℕ → (ks : Stmts) → StateIn ks → Type 0
  ReadsIn c l nil s = Unit {0}
  ReadsIn c l (cons k ks) s = Reads c l k s.0 × ReadsIn c l ks s.1

module _ (c : Column) where
  -- the state written out reads as it
  mutual
    unfolding lay_out

    pub lay_out-reads : (t : Stmt) (s : StateOf t) (lo : ℕ) (p r : List ℕ) → Placed t lo → length p ≡ lo
        → Reads c (reverse_aux p (lay_out c t s r)) t s
    lay_out-reads (leaf i) s lo p r q f = get_d_after p r i (leaf_word c s) (q ∙ sym f)
    lay_out-reads (seq i ks) s lo p r q f =
        (get_d_after p _ i _ (q.0 ∙ sym f), lay_out_in-reads ks s (suc lo) (node_word c 0 ∷ p) r q.1 (ap suc f))
    lay_out-reads (par i ks) s lo p r q f =
        let before : List ℕ = node_word c s.0 ∷ p in
        (get_d_after p _ i _ (q.0 ∙ sym f), lay_out_in-reads ks s.1 (suc lo) before r q.1 (ap suc f))
    lay_out-reads (ife i e ys ns) s lo p r q f =
        let before : List ℕ = node_word c 0 ∷ p in
        let later : List ℕ = lay_out_in c ns s.1 r in (
          get_d_after p _ i _ (q.0 ∙ sym f),
          lay_out_in-reads ys s.0 (suc lo) before later q.1 (ap suc f),
          rw (lay_out_in-past c ys s.0 before later)
              (lay_out_in-reads ns s.1 (ends_of ys (suc lo)) (reverse_aux (lay_out_in c ys s.0 []) before) r q.2
              (past_in-length c ys s.0 before ∙ ap (λ (n : ℕ). ends_of ys (suc n)) f)),
        )
    lay_out-reads (whl i e ks) s lo p r q f =
        (get_d_after p _ i _ (q.0 ∙ sym f), lay_out_in-reads ks s (suc lo) (node_word c 0 ∷ p) r q.1 (ap suc f))

    lay_out_in-reads : (ks : Stmts) (s : StateIn ks) (lo : ℕ) (p r : List ℕ) → PlacedIn ks lo → length p ≡ lo
        → ReadsIn c (reverse_aux p (lay_out_in c ks s r)) ks s
    lay_out_in-reads nil s lo p r q f = tt
    lay_out_in-reads (cons k ks) s lo p r q f =
        let later : List ℕ = lay_out_in c ks s.1 r in (
          lay_out-reads k s.0 lo p later q.0 f,
          rw (lay_out-past c k s.0 p later)
              (lay_out_in-reads ks s.1 (end_of k lo) (reverse_aux (lay_out c k s.0 []) p) r q.1
              (past-length c k s.0 p ∙ ap (end_of k) f)),
        )

-- a list that reads as a state has it written out from the tree's start to its end
module _ (c : Column) (l : List ℕ) where
  word_first : (i w lo : ℕ) (rest : List ℕ) → get_or l i 0 ≡ w → i ≡ lo → lo < length l → rest ≡ drop (suc lo) l
      → w ∷ rest ≡ drop lo l
  word_first i w lo rest h q v e =
      let g : get_or l lo 0 ≡ w = rw (← q) h in
      (λ j. sym g j ∷ e j) ∙ sym (drop-cons l lo 0 v)

  mutual
    unfolding lay_out end_of

    reads_from : (t : Stmt) (s : StateOf t) (lo : ℕ) → Placed t lo → Reads c l t s → end_of t lo ≤ length l
        → lay_out c t s (drop (end_of t lo) l) ≡ drop lo l
    reads_from (leaf i) s lo q h v = word_first i _ lo _ h q v refl
    reads_from (seq i ks) s lo q h v =
        word_first i _ lo _ h.0 q.0 (le_trans (ends_of-ge ks (suc lo)) v)
        (reads_in_from ks s (suc lo) q.1 h.1 v)
    reads_from (par i ks) s lo q h v =
        word_first i _ lo _ h.0 q.0 (le_trans (ends_of-ge ks (suc lo)) v)
        (reads_in_from ks s.1 (suc lo) q.1 h.1 v)
    reads_from (ife i e ys ns) s lo q h v =
        word_first i _ lo _ h.0 q.0 (le_trans (end_of-gt (ife i e ys ns) lo) v)
        (ap (lay_out_in c ys s.0) (reads_in_from ns s.1 (ends_of ys (suc lo)) q.2 h.2 v)
        ∙ reads_in_from ys s.0 (suc lo) q.1 h.1 (le_trans (ends_of-ge ns _) v))
    reads_from (whl i e ks) s lo q h v =
        word_first i _ lo _ h.0 q.0 (le_trans (ends_of-ge ks (suc lo)) v)
        (reads_in_from ks s (suc lo) q.1 h.1 v)

    reads_in_from : (ks : Stmts) (s : StateIn ks) (lo : ℕ) → PlacedIn ks lo → ReadsIn c l ks s → ends_of ks lo ≤ length l
        → lay_out_in c ks s (drop (ends_of ks lo) l) ≡ drop lo l
    reads_in_from nil s lo q h v = refl
    reads_in_from (cons k ks) s lo q h v =
        ap (lay_out c k s.0) (reads_in_from ks s.1 (end_of k lo) q.1 h.1 v)
        ∙ reads_from k s.0 lo q.0 h.0 (le_trans (ends_of-ge ks _) v)

  pub reads-lay_out : (t : Stmt) (s : StateOf t) → Placed t 0 → Reads c l t s → length l ≡ end_of t 0
      → l ≡ lay_out c t s []
  reads-lay_out t s q h e =
      let none : drop (end_of t 0) l ≡ [] = rw (← e) (drop-length l) in
      sym (ap (lay_out c t s) (sym none) ∙ reads_from t s 0 q h (rw e (le_refl _)))
