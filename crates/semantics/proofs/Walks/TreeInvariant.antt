-- Entering and advancing keep a tree's state consistent, leave it live exactly if the statement is not finished, and
-- change no due leaf but the advanced one. By induction over the tree, entering first.
use mathlib.Core.Path.{◌≡◌, refl, sym, ap, ◌∙◌}
use mathlib.Core.Bool.{Bool, true, false, cond, not, ◌&&◌, ◌||◌, and-true, and-false, or-true, or-false}
use mathlib.Core.Logic.{inl, inr}
use Prim.Native.Nat.{ℕ, suc, ◌-◌}
use native.Mathlib.Omega.{arith}
use lib.Dec.{eqb, eqb-suc-zero}
use Rattle.semantics.specs.Tree.{Stmt, Stmts}
use Rattle.semantics.specs.Tree.Stmt.{leaf, seq, par, ife, whl}
use Rattle.semantics.specs.Tree.Stmts.{nil, cons}
use Rattle.semantics.proofs.Lists.Logic.{or_left, or_right, other_left, other_right, cond-at}
use Rattle.semantics.proofs.Tree.Positions.{LeafOf, LeafIn}
use Rattle.semantics.proofs.Walks.TreeState.{Cell, StateOf, StateIn, cell_due, live_in, any_live_in, live_count_in, due_at}
use Rattle.semantics.proofs.Walks.TreeState.{due_in, same_leaf, same_leaf_in, Consistent, ConsistentInTurn, ConsistentEach}
use Rattle.semantics.proofs.Walks.TreeState.{Quiet, QuietIn}
use Rattle.semantics.proofs.Walks.TreeState.Cell.{off, due, on}
use Rattle.semantics.proofs.Walks.TreeWalk.{Step, StepEach, again, lower_if_done, enter_tree, enter_tree_in_turn}
use Rattle.semantics.proofs.Walks.TreeWalk.{enter_tree_each, advance, advance_in_turn, advance_each}

-- ---- a due leaf is live
mutual
  unfolding live_in due_at

  pub due_live : (t : Stmt) (s : StateOf t) (x : LeafOf t) → due_at t s x ≡ true → live_in t s ≡ true
  due_live (leaf i) off x h = h
  due_live (leaf i) due x h = refl
  due_live (leaf i) on x h = refl
  due_live (seq i ks) s x h = due_in-live ks s x h
  due_live (par i ks) s x h = due_in-live ks s.1 x h
  due_live (ife i e ys ns) s (inl x) h = rw (due_in-live ys s.0 x h)
  due_live (ife i e ys ns) s (inr x) h = rw (due_in-live ns s.1 x h) (or-true (any_live_in ys s.0))
  due_live (whl i e ks) s x h = due_in-live ks s x h

  pub due_in-live : (ks : Stmts) (s : StateIn ks) (x : LeafIn ks) → due_in ks s x ≡ true → any_live_in ks s ≡ true
  due_in-live nil s x h = absurd x
  due_in-live (cons k ks) s (inl x) h = rw (due_live k s.0 x h)
  due_in-live (cons k ks) s (inr x) h = rw (due_in-live ks s.1 x h) (or-true (live_in k s.0))

false_if : (b l : Bool) → (b ≡ true → l ≡ true) → l ≡ false → b ≡ false
false_if true l f h = sym (f refl) ∙ h
false_if false l f h = refl

idle_quiet : (ks : Stmts) (s : StateIn ks) → any_live_in ks s ≡ false → QuietIn ks s
idle_quiet ks s h x = false_if (due_in ks s x) (any_live_in ks s) (due_in-live ks s x) h

any_of : (b l : Bool) (n : ℕ) → l ≡ not (eqb n 0) → b || l ≡ not (eqb (cond b (suc n) n) 0)
any_of true l n h = rw (eqb-suc-zero n)
any_of false l n h = h

pub any_live-count : (ks : Stmts) (s : StateIn ks) → any_live_in ks s ≡ not (eqb (live_count_in ks s) 0)
unfolding live_in live_count_in
any_live-count nil s = refl
any_live-count (cons k ks) s =
    any_of (live_in k s.0) (any_live_in ks s.1) (live_count_in ks s.1) (any_live-count ks s.1)

-- ---- entering what is not live
-- what it leaves is consistent, live unless it is finished, and has no leaf due
abbrev EntersBy : {X : Type 0} → (X → Type 0) → (X → Bool) → (X → Type 0) → Step X → Type 0
EntersBy Fine is_live Still r =
    record {
      consistent : Fine r.state;
      live : is_live r.state ≡ not r.done;
      quiet : Still r.state;
    }

abbrev pub Enters : (t : Stmt) → Step (StateOf t) → Type 0
Enters t = EntersBy (Consistent t) (live_in t) (Quiet t)

abbrev EntersInTurn : (ks : Stmts) → Step (StateIn ks) → Type 0
EntersInTurn ks = EntersBy (ConsistentInTurn ks) (any_live_in ks) (QuietIn ks)

abbrev EntersEach : (ks : Stmts) → StepEach (StateIn ks) → Type 0
EntersEach ks q =
    record {
      consistent : ConsistentEach ks q.state;
      live : live_count_in ks q.state ≡ q.staying;
      quiet : QuietIn ks q.state;
    }

-- the first child moved (d: it finished), then the others were entered, which were not live
in_turn-live : (k : Stmt) (ks : Stmts) (d : Bool) (x : StateOf k) (q : Step (StateIn ks)) (y : StateIn ks)
    → Consistent k x → live_in k x ≡ not d → EntersInTurn ks q → ConsistentInTurn ks y → any_live_in ks y ≡ false
    → record {
      consistent : ConsistentInTurn (cons k ks) (x, cond d q.state y);
      live : any_live_in (cons k ks) (x, cond d q.state y) ≡ not (d && q.done);
    }
unfolding live_in
in_turn-live k ks true x q y g a h gy hy =
    record { consistent = (g, h.consistent, rw a); live = rw a h.live }
in_turn-live k ks false x q y g a h gy hy =
    record { consistent = (g, gy, rw hy (and-false (live_in k x))); live = rw a }

in_turn-quiet : (ks : Stmts) (d : Bool) (q : Step (StateIn ks)) (y : StateIn ks)
    → EntersInTurn ks q → any_live_in ks y ≡ false → QuietIn ks (cond d q.state y)
in_turn-quiet ks true q y h hy = h.quiet
in_turn-quiet ks false q y h hy = idle_quiet ks y hy

each_count : (d b : Bool) (n m : ℕ) → b ≡ not d → n ≡ m → cond b (suc n) n ≡ cond d m (suc m)
each_count true b n m h e = rw h e
each_count false b n m h e = rw h (ap suc e)

module _ (holds : ℕ → Bool) where
  mutual
    unfolding enter_tree live_in due_at live_count_in

    pub enter_keeps : (t : Stmt) (s : StateOf t) → Consistent t s → live_in t s ≡ false → Enters t (enter_tree holds t s)
    enter_keeps (leaf i) s g h = record { consistent = tt; live = refl; quiet = λ x. refl }
    enter_keeps (seq i ks) s g h = enter_in_turn-keeps ks s g h
    enter_keeps (par i ks) s g h =
        let p : EntersEach ks (enter_tree_each holds ks s.1) = enter_each-keeps ks s.1 g.1 h in
        record {
          consistent = (sym p.live, p.consistent);
          live = any_live-count ks _ ∙ ap (λ (n : ℕ). not (eqb n 0)) p.live;
          quiet = p.quiet;
        }
    enter_keeps (ife i e ys ns) s g h =
        let idle_y : any_live_in ys s.0 ≡ false = or_left _ _ h in
        let idle_n : any_live_in ns s.1 ≡ false = or_right (any_live_in ys s.0) _ h in
        let entered : Step (StateIn ys) = enter_tree_in_turn holds ys s.0 in
        let y : EntersInTurn ys entered = enter_in_turn-keeps ys s.0 g.0 idle_y in
        let n : EntersInTurn ns (enter_tree_in_turn holds ns s.1) = enter_in_turn-keeps ns s.1 g.1 idle_n in
        cond-at (Enters (ife i e ys ns)) (holds e)
        (record {
          consistent = (y.consistent, g.1, rw idle_n (and-false (any_live_in ys entered.state)));
          live = rw idle_n (or-false _ ∙ y.live);
          quiet = elim [ inl x ↦ y.quiet x | inr x ↦ idle_quiet ns s.1 idle_n x ];
        })
        (record {
          consistent = (g.0, n.consistent, rw idle_y);
          live = rw idle_y n.live;
          quiet = elim [ inl x ↦ idle_quiet ys s.0 idle_y x | inr x ↦ n.quiet x ];
        })
    enter_keeps (whl i e ks) s g h =
        let y : EntersInTurn ks (enter_tree_in_turn holds ks s) = enter_in_turn-keeps ks s g h in
        cond-at (Enters (whl i e ks)) (holds e)
        (record { consistent = y.consistent; live = y.live; quiet = y.quiet })
        (record { consistent = g; live = h; quiet = idle_quiet ks s h })

    enter_in_turn-keeps : (ks : Stmts) (s : StateIn ks) → ConsistentInTurn ks s → any_live_in ks s ≡ false
        → EntersInTurn ks (enter_tree_in_turn holds ks s)
    enter_in_turn-keeps nil s g h = record { consistent = tt; live = refl; quiet = λ x. absurd x }
    enter_in_turn-keeps (cons k ks) s g h =
        let r : Step (StateOf k) = enter_tree holds k s.0 in
        let entered : Step (StateIn ks) = enter_tree_in_turn holds ks s.1 in
        let idle : any_live_in ks s.1 ≡ false = or_right (live_in k s.0) _ h in
        let p : Enters k r = enter_keeps k s.0 g.0 (or_left _ _ h) in
        let q : EntersInTurn ks entered = enter_in_turn-keeps ks s.1 g.1 idle in
        let b = in_turn-live k ks r.done r.state entered s.1 p.consistent p.live q g.1 idle in
        record {
          consistent = b.consistent;
          live = b.live;
          quiet = elim [
            | inl x ↦ p.quiet x
            | inr x ↦ in_turn-quiet ks r.done entered s.1 q idle x
          ];
        }

    enter_each-keeps : (ks : Stmts) (s : StateIn ks) → ConsistentEach ks s → any_live_in ks s ≡ false
        → EntersEach ks (enter_tree_each holds ks s)
    enter_each-keeps nil s g h = record { consistent = tt; live = refl; quiet = λ x. absurd x }
    enter_each-keeps (cons k ks) s g h =
        let r : Step (StateOf k) = enter_tree holds k s.0 in
        let p : Enters k r = enter_keeps k s.0 g.0 (or_left _ _ h) in
        let idle : any_live_in ks s.1 ≡ false = or_right (live_in k s.0) _ h in
        let q : EntersEach ks (enter_tree_each holds ks s.1) = enter_each-keeps ks s.1 g.1 idle in
        record {
          consistent = (p.consistent, q.consistent);
          live = each_count r.done _ _ _ p.live q.live;
          quiet = elim [ inl x ↦ p.quiet x | inr x ↦ q.quiet x ];
        }

-- ---- advancing a due leaf x: the other due leaves stay due, and no leaf becomes due
abbrev AdvancesBy : {X L : Type 0} → (X → Type 0) → (X → Bool) → (X → L → Bool) → (L → L → Bool) → X → L → Step X → Type 0
AdvancesBy {L = L} Fine is_live is_due same s x r =
    record {
      consistent : Fine r.state;
      live : is_live r.state ≡ not r.done;
      others : (y : L) → is_due r.state y ≡ is_due s y && not (same x y);
    }

abbrev pub Advances : (t : Stmt) → StateOf t → LeafOf t → Step (StateOf t) → Type 0
Advances t = AdvancesBy (Consistent t) (live_in t) (due_at t) (same_leaf t)

abbrev AdvancesInTurn : (ks : Stmts) → StateIn ks → LeafIn ks → Step (StateIn ks) → Type 0
AdvancesInTurn ks = AdvancesBy (ConsistentInTurn ks) (any_live_in ks) (due_in ks) (same_leaf_in ks)

abbrev AdvancesEach : (ks : Stmts) → StateIn ks → LeafIn ks → Step (StateIn ks) → Type 0
AdvancesEach ks s x r =
    record {
      consistent : ConsistentEach ks r.state;
      live : live_count_in ks s ≡ cond r.done (suc (live_count_in ks r.state)) (live_count_in ks r.state);
      others : (y : LeafIn ks) → due_in ks r.state y ≡ due_in ks s y && not (same_leaf_in ks x y);
    }

leaf_advances : (i : ℕ) (b : Bool) (s : Cell) (x : LeafOf (leaf i))
    → Advances (leaf i) s x (record { done = not b; looped = false; state = cond b on off })
unfolding live_in due_at same_leaf
leaf_advances i true s x = record { consistent = tt; live = refl; others = λ y. sym (and-false (cell_due s)) }
leaf_advances i false s x = record { consistent = tt; live = refl; others = λ y. sym (and-false (cell_due s)) }

-- a WHL's child moved (d: it finished); where the condition b holds, q is the child entered again
again_advances : (ks : Stmts) (s : StateIn ks) (x : LeafIn ks) (b d l : Bool) (u : StateIn ks) (q : Step (StateIn ks))
    → AdvancesInTurn ks s x (record { done = d; looped = l; state = u }) → (any_live_in ks u ≡ false → EntersInTurn ks q)
    → AdvancesInTurn ks s x (again b (record { done = d; looped = l; state = u }) q)
again_advances ks s x true true l u q m f =
    let p : EntersInTurn ks q = f m.live in
    record {
      consistent = p.consistent;
      live = p.live;
      others = λ y. p.quiet y ∙ sym (idle_quiet ks u m.live y) ∙ m.others y;
    }
again_advances ks s x false true l u q m f = m
again_advances ks s x true false l u q m f = m
again_advances ks s x false false l u q m f = m

-- a child of a PAR that counts n moved (d: it finished)
lower_advances : (i : ℕ) (ks : Stmts) (n : ℕ) (s : StateIn ks) (x : LeafIn ks) (d l : Bool) (u : StateIn ks)
    → n ≡ live_count_in ks s → any_live_in ks s ≡ true → AdvancesEach ks s x (record { done = d; looped = l; state = u })
    → Advances (par i ks) (n, s) x (lower_if_done n (record { done = d; looped = l; state = u }))
unfolding live_in due_at same_leaf
lower_advances i ks n s x true l u e h m =
    let counted = m.live in
    let p : n - 1 ≡ live_count_in ks u = omega arith in
    record { consistent = (p, m.consistent); live = rw p (any_live-count ks u); others = m.others }
lower_advances i ks n s x false l u e h m =
    record {
      consistent = (e ∙ m.live, m.consistent);
      live = any_live-count ks u ∙ ap (λ (k : ℕ). not (eqb k 0)) (sym m.live) ∙ sym (any_live-count ks s) ∙ h;
      others = m.others;
    }

-- the count of the live children when the first moved, and when a later one did
first_count : (d b c : Bool) (n : ℕ) → b ≡ true → c ≡ not d
    → cond b (suc n) n ≡ cond d (suc (cond c (suc n) n)) (cond c (suc n) n)
first_count true b c n h e = rw (h, e)
first_count false b c n h e = rw (h, e)

later_count : (d b : Bool) (n m : ℕ) → n ≡ cond d (suc m) m
    → cond b (suc n) n ≡ cond d (suc (cond b (suc m) m)) (cond b (suc m) m)
later_count true true n m e = ap suc e
later_count true false n m e = e
later_count false true n m e = ap suc e
later_count false false n m e = e

module _ (holds waits : ℕ → Bool) where
  mutual
    unfolding advance live_in due_at live_count_in same_leaf

    pub advance_keeps : (t : Stmt) (s : StateOf t) (x : LeafOf t) → Consistent t s → due_at t s x ≡ true
        → Advances t s x (advance holds waits t s x)
    advance_keeps (leaf i) s x g h = leaf_advances i (waits i) s x
    advance_keeps (seq i ks) s x g h = advance_in_turn-keeps ks s x g h
    advance_keeps (par i ks) s x g h =
        let r : Step (StateIn ks) = advance_each holds waits ks s.1 x in
        lower_advances i ks s.0 s.1 x r.done r.looped r.state g.0 (due_in-live ks s.1 x h)
        (advance_each-keeps ks s.1 x g.1 h)
    advance_keeps (ife i e ys ns) s (inl x) g h =
        let r : Step (StateIn ys) = advance_in_turn holds waits ys s.0 x in
        let m : AdvancesInTurn ys s.0 x r = advance_in_turn-keeps ys s.0 x g.0 h in
        let idle : any_live_in ns s.1 ≡ false = other_right _ _ g.2 (due_in-live ys s.0 x h) in
        record {
          consistent = (m.consistent, g.1, rw idle (and-false (any_live_in ys r.state)));
          live = rw idle (or-false _ ∙ m.live);
          others = elim [ inl y ↦ m.others y | inr y ↦ sym (and-true _) ];
        }
    advance_keeps (ife i e ys ns) s (inr x) g h =
        let r : Step (StateIn ns) = advance_in_turn holds waits ns s.1 x in
        let m : AdvancesInTurn ns s.1 x r = advance_in_turn-keeps ns s.1 x g.1 h in
        let idle : any_live_in ys s.0 ≡ false = other_left (any_live_in ys s.0) _ g.2 (due_in-live ns s.1 x h) in
        record {
          consistent = (g.0, m.consistent, rw idle);
          live = rw idle m.live;
          others = elim [ inl y ↦ sym (and-true _) | inr y ↦ m.others y ];
        }
    advance_keeps (whl i e ks) s x g h =
        let r : Step (StateIn ks) = advance_in_turn holds waits ks s x in
        let m : AdvancesInTurn ks s x r = advance_in_turn-keeps ks s x g h in
        again_advances ks s x (holds e) r.done r.looped r.state (enter_tree_in_turn holds ks r.state) m
        (enter_in_turn-keeps holds ks r.state m.consistent)

    advance_in_turn-keeps : (ks : Stmts) (s : StateIn ks) (x : LeafIn ks) → ConsistentInTurn ks s → due_in ks s x ≡ true
        → AdvancesInTurn ks s x (advance_in_turn holds waits ks s x)
    advance_in_turn-keeps nil s x g h = absurd x
    advance_in_turn-keeps (cons k ks) s (inl x) g h =
        let r : Step (StateOf k) = advance holds waits k s.0 x in
        let m : Advances k s.0 x r = advance_keeps k s.0 x g.0 h in
        let idle : any_live_in ks s.1 ≡ false = other_right _ _ g.2 (due_live k s.0 x h) in
        let entered : Step (StateIn ks) = enter_tree_in_turn holds ks s.1 in
        let q : EntersInTurn ks entered = enter_in_turn-keeps holds ks s.1 g.1 idle in
        let b = in_turn-live k ks r.done r.state entered s.1 m.consistent m.live q g.1 idle in
        record {
          consistent = b.consistent;
          live = b.live;
          others = elim [
            | inl y ↦ m.others y
            | inr y ↦
                in_turn-quiet ks r.done entered s.1 q idle y ∙ sym (idle_quiet ks s.1 idle y) ∙ sym (and-true _)
          ];
        }
    advance_in_turn-keeps (cons k ks) s (inr x) g h =
        let r : Step (StateIn ks) = advance_in_turn holds waits ks s.1 x in
        let m : AdvancesInTurn ks s.1 x r = advance_in_turn-keeps ks s.1 x g.1 h in
        let idle : live_in k s.0 ≡ false = other_left (live_in k s.0) _ g.2 (due_in-live ks s.1 x h) in
        record {
          consistent = (g.0, m.consistent, rw idle);
          live = rw idle m.live;
          others = elim [ inl y ↦ sym (and-true _) | inr y ↦ m.others y ];
        }

    advance_each-keeps : (ks : Stmts) (s : StateIn ks) (x : LeafIn ks) → ConsistentEach ks s → due_in ks s x ≡ true
        → AdvancesEach ks s x (advance_each holds waits ks s x)
    advance_each-keeps nil s x g h = absurd x
    advance_each-keeps (cons k ks) s (inl x) g h =
        let r : Step (StateOf k) = advance holds waits k s.0 x in
        let m : Advances k s.0 x r = advance_keeps k s.0 x g.0 h in
        let live : live_in k s.0 ≡ true = due_live k s.0 x h in
        record {
          consistent = (m.consistent, g.1);
          live = first_count r.done (live_in k s.0) (live_in k r.state) (live_count_in ks s.1) live m.live;
          others = elim [ inl y ↦ m.others y | inr y ↦ sym (and-true _) ];
        }
    advance_each-keeps (cons k ks) s (inr x) g h =
        let r : Step (StateIn ks) = advance_each holds waits ks s.1 x in
        let m : AdvancesEach ks s.1 x r = advance_each-keeps ks s.1 x g.1 h in
        record {
          consistent = (g.0, m.consistent);
          live = later_count r.done (live_in k s.0) (live_count_in ks s.1) (live_count_in ks r.state) m.live;
          others = elim [ inl y ↦ sym (and-true _) | inr y ↦ m.others y ];
        }
