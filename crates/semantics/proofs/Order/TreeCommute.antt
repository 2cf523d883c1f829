-- Two due leaves may be advanced in either order: the first never finishes the statement, and outcome, state and zero-
-- time loop come out alike. Two children of a PAR do not meet at all; any other two due leaves stand in one child.
use mathlib.Core.Path.{◌≡◌, refl, sym, ◌∙◌}
use mathlib.Core.Bool.{Bool, true, false, cond, ◌&&◌, ◌||◌, true≢false, or-false, or_assoc, or_comm}
use mathlib.Core.Logic.{◌⊎◌, inl, inr}
use Prim.Native.Nat.{ℕ, zero, suc, ◌-◌, ◌≤◌}
use native.Mathlib.Omega.{arith}
use lib.Dec.{eqb}
use borrow.Author.Tests.{ne_eqb, eqb-false, not-true}
use Rattle.semantics.specs.Tree.{Stmt, Stmts}
use Rattle.semantics.specs.Tree.Stmt.{leaf, seq, par, ife, whl}
use Rattle.semantics.specs.Tree.Stmts.{nil, cons}
use Rattle.semantics.proofs.Lists.Logic.{other_right}
use Rattle.semantics.proofs.Tree.Positions.{LeafOf, LeafIn}
use Rattle.semantics.proofs.Walks.TreeState.{StateOf, StateIn, live_in, any_live_in, live_count_in, due_at, due_in, same_leaf}
use Rattle.semantics.proofs.Walks.TreeState.{same_leaf_in, Consistent, ConsistentInTurn, ConsistentEach}
use Rattle.semantics.proofs.Walks.TreeWalk.{Step, in_first, in_second, in_turn, again, less_if, lower_if_done}
use Rattle.semantics.proofs.Walks.TreeWalk.{enter_tree_in_turn, advance, advance_in_turn, advance_each}
use Rattle.semantics.proofs.Walks.TreeInvariant.{due_live, due_in-live, any_live-count}

-- two moves of one state: neither finishes as the first, and either order comes out alike
abbrev pub Commute : {X : Type 0} → (X → Step X) → (X → Step X) → X → Type 0
Commute a b s =
    record {
      stays : (a s).done ≡ false;
      other_stays : (b s).done ≡ false;
      done : (b (a s).state).done ≡ (a (b s).state).done;
      state : (b (a s).state).state ≡ (a (b s).state).state;
      looped : (a s).looped || (b (a s).state).looped ≡ (b s).looped || (a (b s).state).looped;
    }

-- two moves that do not meet: each finishes as it would without the other
abbrev Apart : {X : Type 0} → (X → Step X) → (X → Step X) → X → Type 0
Apart a b s =
    record {
      other_done : (b (a s).state).done ≡ (b s).done;
      done : (a (b s).state).done ≡ (a s).done;
      state : (b (a s).state).state ≡ (a (b s).state).state;
      looped : (a s).looped || (b (a s).state).looped ≡ (b s).looped || (a (b s).state).looped;
    }

-- the loops of two moves, the second with what follows it
loops : (p q r s y z : Bool) → p || q ≡ r || s → y ≡ z → p || false || (q || y) ≡ r || false || (s || z)
loops p q r s y z h e =
    rw (or-false p, or-false r) (sym (or_assoc p q y) ∙ (λ i. h i || e i) ∙ or_assoc r s z)

-- ---- moves in one part
module _ {X Y : Type 0} (a b : X → Step X) where
  first_commute : (s : X × Y) → Commute a b s.0
      → Commute {X = X × Y} (λ t. in_first (a t.0) t.1) (λ t. in_first (b t.0) t.1) s
  first_commute s h =
      record {
        stays = h.stays;
        other_stays = h.other_stays;
        done = h.done;
        state = λ i. (h.state i, s.1);
        looped = h.looped;
      }

  second_commute : (s : Y × X) → Commute a b s.1
      → Commute {X = Y × X} (λ t. in_second t.0 (a t.1)) (λ t. in_second t.0 (b t.1)) s
  second_commute s h =
      record {
        stays = h.stays;
        other_stays = h.other_stays;
        done = h.done;
        state = λ i. (s.0, h.state i);
        looped = h.looped;
      }

  second_apart : (s : Y × X) → Apart a b s.1
      → Apart {X = Y × X} (λ t. in_second t.0 (a t.1)) (λ t. in_second t.0 (b t.1)) s
  second_apart s h =
      record { other_done = h.other_done; done = h.done; state = λ i. (s.0, h.state i); looped = h.looped }

  in_turn-commute : (f : Y → Step Y) (s : X × Y) → Commute a b s.0
      → Commute {X = X × Y} (λ t. in_turn (a t.0) (f t.1) t.1) (λ t. in_turn (b t.0) (f t.1) t.1) s
  in_turn-commute f s h =
      record {
        stays = rw h.stays;
        other_stays = rw h.other_stays;
        done = rw (h.stays, h.other_stays, h.done);
        state = rw (h.stays, h.other_stays) (λ i. (h.state i, cond (h.done i) (f s.1).state s.1));
        looped = rw (h.stays, h.other_stays)
            (loops (a s.0).looped (b (a s.0).state).looped (b s.0).looped (a (b s.0).state).looped _ _
            h.looped (λ i. h.done i && (f s.1).looped));
      }

-- ---- moves in the child of a WHL, and below a PAR
less_if-comm : (d e : Bool) (n : ℕ) → less_if e (less_if d n) ≡ less_if d (less_if e n)
less_if-comm true true n = refl
less_if-comm true false n = refl
less_if-comm false true n = refl
less_if-comm false false n = refl

module _ (n : ℕ) (two : 2 ≤ n) where
  one_left : eqb (n - 1) 0 ≡ false
  one_left = ne_eqb (n - 1) 0 (λ (e : n - 1 ≡ 0). omega arith)

  first_leaves_one : (d : Bool) → d && eqb (less_if d n) 0 ≡ false
  first_leaves_one true = one_left
  first_leaves_one false = refl

  last_leaves_none : (d e : Bool) → e && eqb (less_if e (less_if d n)) 0 ≡ d && eqb (less_if d (less_if e n)) 0
  last_leaves_none true true = refl
  last_leaves_none true false = sym one_left
  last_leaves_none false true = one_left
  last_leaves_none false false = refl

module _ {X : Type 0} (a b : X → Step X) where
  again_commute : (f : X → Step X) (c : Bool) (s : X) → Commute a b s
      → Commute (λ u. again c (a u) (f (a u).state)) (λ u. again c (b u) (f (b u).state)) s
  again_commute f c s h =
      record {
        stays = rw h.stays;
        other_stays = rw h.other_stays;
        done = rw (h.stays, h.other_stays, h.done, h.state);
        state = rw (h.stays, h.other_stays, h.done, h.state);
        looped = rw (h.stays, h.other_stays)
            (loops (a s).looped (b (a s).state).looped (b s).looped (a (b s).state).looped _ _ h.looped
            (λ i. h.done i && (c && ((f (h.state i)).looped || (f (h.state i)).done))));
      }

  abbrev Below : (n : ℕ) (s : X) → Type 0
  Below n s = Commute {X = ℕ × X} (λ u. lower_if_done u.0 (a u.1)) (λ u. lower_if_done u.0 (b u.1)) (n, s)

  lower_commute : (n : ℕ) (s : X) → Commute a b s → Below n s
  lower_commute n s h =
      record {
        stays = rw h.stays;
        other_stays = rw h.other_stays;
        done = rw (h.stays, h.other_stays, h.done);
        state = rw (h.stays, h.other_stays) (λ i. (less_if (h.done i) n, h.state i));
        looped = h.looped;
      }

  lower_apart : (n : ℕ) (s : X) → 2 ≤ n → Apart a b s → Below n s
  lower_apart n s two h =
      record {
        stays = first_leaves_one n two (a s).done;
        other_stays = first_leaves_one n two (b s).done;
        done = rw (h.other_done, h.done) (last_leaves_none n two (a s).done (b s).done);
        state = rw (h.other_done, h.done) (λ i. (less_if-comm (a s).done (b s).done n i, h.state i));
        looped = h.looped;
      }

  -- two moves below a PAR with n live children: in one child, or in two
  abbrev InOneOrTwo : (n : ℕ) (s : X) → Type 0
  InOneOrTwo n s = Commute a b s ⊎ ((2 ≤ n) × Apart a b s)

  par_commute : (n m : ℕ) (s : X) → n ≡ m → InOneOrTwo m s → Below n s
  par_commute n m s e (inl h) = lower_commute n s h
  par_commute n m s e (inr h) = lower_apart n s (rw e h.0) h.1

more_live : (b : Bool) (n : ℕ) → 2 ≤ n → 2 ≤ cond b (suc n) n
more_live true n h = omega arith
more_live false n h = h

second_one_or_two : {X Y : Type 0} (a b : X → Step X) (s : Y × X) (live : Bool) (n : ℕ) → InOneOrTwo a b n s.1
    → InOneOrTwo {X = Y × X} (λ u. in_second u.0 (a u.1)) (λ u. in_second u.0 (b u.1)) (cond live (suc n) n) s
second_one_or_two a b s live n (inl h) = inl (second_commute a b s h)
second_one_or_two a b s live n (inr h) = inr (more_live live n h.0, second_apart a b s h.1)

-- a due leaf in the first child and one in the others: two children are live
two_live : (k : Stmt) (ks : Stmts) (s : StateIn (cons k ks)) (x : LeafOf k) (y : LeafIn ks)
    → due_at k s.0 x ≡ true → due_in ks s.1 y ≡ true → 2 ≤ live_count_in (cons k ks) s
unfolding live_count_in
two_live k ks s x y hx hy =
    let some = not-true _ (sym (any_live-count ks s.1) ∙ due_in-live ks s.1 y hy) in
    rw (due_live k s.0 x hx) (positive (live_count_in ks s.1) (eqb-false _ 0 some))
  where
    positive : (n : ℕ) → (n ≡ 0 → ⊥) → 2 ≤ suc n
    positive zero h = absurd (h refl)
    positive (suc n) h = omega arith

not_both : (a b : Bool) → a && b ≡ false → a ≡ true → b ≡ true → ⊥
not_both a b h e f = true≢false (sym f ∙ other_right a b h e)

-- ---- two due leaves
module _ (holds waits : ℕ → Bool) where
  -- the advance of one leaf, as a move
  abbrev pub move : (t : Stmt) → LeafOf t → StateOf t → Step (StateOf t)
  move t x s = advance holds waits t s x

  abbrev in_turn_move : (ks : Stmts) → LeafIn ks → StateIn ks → Step (StateIn ks)
  in_turn_move ks x s = advance_in_turn holds waits ks s x

  abbrev each_move : (ks : Stmts) → LeafIn ks → StateIn ks → Step (StateIn ks)
  each_move ks x s = advance_each holds waits ks s x

  mutual
    unfolding advance due_at live_count_in same_leaf

    pub advance_commute : (t : Stmt) (s : StateOf t) (x y : LeafOf t)
        → Consistent t s → due_at t s x ≡ true → due_at t s y ≡ true → same_leaf t x y ≡ false
        → Commute (move t x) (move t y) s
    advance_commute (leaf i) s x y g hx hy ne = absurd (true≢false ne)
    advance_commute (seq i ks) s x y g hx hy ne = in_turn-advances ks s x y g hx hy ne
    advance_commute (par i ks) s x y g hx hy ne =
        par_commute (each_move ks x) (each_move ks y) s.0 (live_count_in ks s.1) s.1 g.0
        (each_advances ks s.1 x y g.1 hx hy ne)
    advance_commute (ife i e ys ns) s (inl x) (inl y) g hx hy ne =
        first_commute (in_turn_move ys x) (in_turn_move ys y) s (in_turn-advances ys s.0 x y g.0 hx hy ne)
    advance_commute (ife i e ys ns) s (inl x) (inr y) g hx hy ne =
        absurd (not_both (any_live_in ys s.0) _ g.2 (due_in-live ys s.0 x hx) (due_in-live ns s.1 y hy))
    advance_commute (ife i e ys ns) s (inr x) (inl y) g hx hy ne =
        absurd (not_both (any_live_in ys s.0) _ g.2 (due_in-live ys s.0 y hy) (due_in-live ns s.1 x hx))
    advance_commute (ife i e ys ns) s (inr x) (inr y) g hx hy ne =
        second_commute (in_turn_move ns x) (in_turn_move ns y) s (in_turn-advances ns s.1 x y g.1 hx hy ne)
    advance_commute (whl i e ks) s x y g hx hy ne =
        again_commute (in_turn_move ks x) (in_turn_move ks y) (enter_tree_in_turn holds ks) (holds e) s
        (in_turn-advances ks s x y g hx hy ne)

    in_turn-advances : (ks : Stmts) (s : StateIn ks) (x y : LeafIn ks)
        → ConsistentInTurn ks s → due_in ks s x ≡ true → due_in ks s y ≡ true → same_leaf_in ks x y ≡ false
        → Commute (in_turn_move ks x) (in_turn_move ks y) s
    in_turn-advances nil s x y g hx hy ne = absurd x
    in_turn-advances (cons k ks) s (inl x) (inl y) g hx hy ne =
        in_turn-commute (move k x) (move k y) (enter_tree_in_turn holds ks) s
        (advance_commute k s.0 x y g.0 hx hy ne)
    in_turn-advances (cons k ks) s (inl x) (inr y) g hx hy ne =
        absurd (not_both (live_in k s.0) _ g.2 (due_live k s.0 x hx) (due_in-live ks s.1 y hy))
    in_turn-advances (cons k ks) s (inr x) (inl y) g hx hy ne =
        absurd (not_both (live_in k s.0) _ g.2 (due_live k s.0 y hy) (due_in-live ks s.1 x hx))
    in_turn-advances (cons k ks) s (inr x) (inr y) g hx hy ne =
        second_commute (in_turn_move ks x) (in_turn_move ks y) s (in_turn-advances ks s.1 x y g.1 hx hy ne)

    each_advances : (ks : Stmts) (s : StateIn ks) (x y : LeafIn ks)
        → ConsistentEach ks s → due_in ks s x ≡ true → due_in ks s y ≡ true → same_leaf_in ks x y ≡ false
        → InOneOrTwo (each_move ks x) (each_move ks y) (live_count_in ks s) s
    each_advances nil s x y g hx hy ne = absurd x
    each_advances (cons k ks) s (inl x) (inl y) g hx hy ne =
        inl (first_commute (move k x) (move k y) s (advance_commute k s.0 x y g.0 hx hy ne))
    each_advances (cons k ks) s (inl x) (inr y) g hx hy ne =
        inr (
          two_live k ks s x y hx hy,
          record { other_done = refl; done = refl; state = refl; looped = or_comm (move k x s.0).looped _ },
        )
    each_advances (cons k ks) s (inr x) (inl y) g hx hy ne =
        inr (
          two_live k ks s y x hy hx,
          record { other_done = refl; done = refl; state = refl; looped = or_comm (each_move ks x s.1).looped _ },
        )
    each_advances (cons k ks) s (inr x) (inr y) g hx hy ne =
        second_one_or_two (each_move ks x) (each_move ks y) s
        (live_in k s.0) (live_count_in ks s.1) (each_advances ks s.1 x y g.1 hx hy ne)
