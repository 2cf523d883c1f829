-- A tree's state written out as the flat lists of marks and of thread counts, inside what stands before and after the
-- tree. What stands before is kept last first, so that going on into a child or past one is by computation or by one
-- lemma.
use mathlib.Core.Path.{◌≡◌, refl, sym, ap, ◌∙◌}
use mathlib.Core.Bool.{Bool}
use mathlib.Core.List.{List, [], ◌∷◌, ◌++◌, reverse, reverse_aux, reverse_aux-eq}
use Prim.Native.Nat.{ℕ, suc, ◌+◌}
use native.Mathlib.Nat.{zero-add}
use native.Mathlib.Omega.{arith}
use lib.ListN.{length, get_or, set, length-reverse, length-reverse_aux}
use lib.Seq.{set_at, get_or_at}
use Rattle.semantics.specs.Tree.{Stmt, Stmts}
use Rattle.semantics.specs.Tree.Stmt.{leaf, seq, par, ife, whl}
use Rattle.semantics.specs.Tree.Stmts.{nil, cons}
use Rattle.semantics.specs.Walk.{Walk}
use Rattle.semantics.proofs.Tree.Positions.{end_of, ends_of}
use Rattle.semantics.proofs.Walks.TreeState.{Cell, StateOf, StateIn}
use Rattle.semantics.proofs.Walks.TreeState.Cell.{off, due, on}

-- ---- lists whose front is kept last first
reverse_aux_append : (p q r : List ℕ) → reverse_aux p (q ++ r) ≡ reverse_aux (reverse_aux q p) r
reverse_aux_append p [] r = refl
reverse_aux_append p (x ∷ q) r = reverse_aux_append (x ∷ p) q r

pub append-reverse_aux : (q p r : List ℕ) → reverse_aux (q ++ p) r ≡ reverse_aux p (reverse_aux q r)
append-reverse_aux [] p r = refl
append-reverse_aux (x ∷ q) p r = append-reverse_aux q p (x ∷ r)

pub reverse_aux_onto : (q p r : List ℕ) → reverse_aux q (p ++ r) ≡ reverse_aux q p ++ r
reverse_aux_onto [] p r = refl
reverse_aux_onto (x ∷ q) p r = reverse_aux_onto q (x ∷ p) r

pub set_after : (p r : List ℕ) (i x v : ℕ) → i ≡ length p → set (reverse_aux p (x ∷ r)) i v ≡ reverse_aux p (v ∷ r)
set_after p r i x v e =
    rw (reverse_aux-eq p (x ∷ r), reverse_aux-eq p (v ∷ r)) (set_at (reverse p) x r v i (length-reverse p ∙ sym e))

pub get_d_after : (p r : List ℕ) (i x : ℕ) → i ≡ length p → get_or (reverse_aux p (x ∷ r)) i 0 ≡ x
get_d_after p r i x e = rw (reverse_aux-eq p (x ∷ r)) (get_or_at (reverse p) x r 0 i (length-reverse p ∙ sym e))

-- ---- the two lists, and what is written in them for a leaf and for a statement that counts n threads
pub data Column : Type 0 where
  in_marks : Column
  in_counts : Column

abbrev pub leaf_word : Column → Cell → ℕ
leaf_word in_marks off = 0
leaf_word in_marks due = 0
leaf_word in_marks on = 1
leaf_word in_counts s = 0

abbrev pub node_word : Column → ℕ → ℕ
node_word in_marks n = 0
node_word in_counts n = n

-- what stands before a tree, last first, and after it
pub record Around : Type 0 where
  pub before : List ℕ
  pub after : List ℕ

abbrev pub Surroundings : Type 0
Surroundings = Column → Around

module _ (c : Column) where
  unfoldable mutual
    pub lay_out : (t : Stmt) → StateOf t → List ℕ → List ℕ
    lay_out (leaf i) s r = leaf_word c s ∷ r
    lay_out (seq i ks) s r = node_word c 0 ∷ lay_out_in ks s r
    lay_out (par i ks) s r = node_word c s.0 ∷ lay_out_in ks s.1 r
    lay_out (ife i e ys ns) s r = node_word c 0 ∷ lay_out_in ys s.0 (lay_out_in ns s.1 r)
    lay_out (whl i e ks) s r = node_word c 0 ∷ lay_out_in ks s r

    pub lay_out_in : (ks : Stmts) → StateIn ks → List ℕ → List ℕ
    lay_out_in nil s r = r
    lay_out_in (cons k ks) s r = lay_out k s.0 (lay_out_in ks s.1 r)

  mutual
    unfolding lay_out

    lay_out-append : (t : Stmt) (s : StateOf t) (q r : List ℕ) → lay_out t s (q ++ r) ≡ lay_out t s q ++ r
    lay_out-append (leaf i) s q r = refl
    lay_out-append (seq i ks) s q r = ap (λ (l : List ℕ). node_word c 0 ∷ l) (lay_out_in-append ks s q r)
    lay_out-append (par i ks) s q r = ap (λ (l : List ℕ). node_word c s.0 ∷ l) (lay_out_in-append ks s.1 q r)
    lay_out-append (ife i e ys ns) s q r =
        ap (λ (l : List ℕ). node_word c 0 ∷ lay_out_in ys s.0 l) (lay_out_in-append ns s.1 q r)
        ∙ ap (λ (l : List ℕ). node_word c 0 ∷ l) (lay_out_in-append ys s.0 (lay_out_in ns s.1 q) r)
    lay_out-append (whl i e ks) s q r = ap (λ (l : List ℕ). node_word c 0 ∷ l) (lay_out_in-append ks s q r)

    lay_out_in-append : (ks : Stmts) (s : StateIn ks) (q r : List ℕ) → lay_out_in ks s (q ++ r) ≡ lay_out_in ks s q ++ r
    lay_out_in-append nil s q r = refl
    lay_out_in-append (cons k ks) s q r =
        ap (lay_out k s.0) (lay_out_in-append ks s.1 q r) ∙ lay_out-append k s.0 (lay_out_in ks s.1 q) r

  -- past a tree: what is laid out goes to what stands before
  pub lay_out-past : (t : Stmt) (s : StateOf t) (p r : List ℕ)
      → reverse_aux p (lay_out t s r) ≡ reverse_aux (reverse_aux (lay_out t s []) p) r
  lay_out-past t s p r = ap (reverse_aux p) (lay_out-append t s [] r) ∙ reverse_aux_append p (lay_out t s []) r

  pub lay_out_in-past : (ks : Stmts) (s : StateIn ks) (p r : List ℕ)
      → reverse_aux p (lay_out_in ks s r) ≡ reverse_aux (reverse_aux (lay_out_in ks s []) p) r
  lay_out_in-past ks s p r = ap (reverse_aux p) (lay_out_in-append ks s [] r) ∙ reverse_aux_append p (lay_out_in ks s []) r

  mutual
    unfolding lay_out end_of

    pub lay_out-length : (t : Stmt) (s : StateOf t) (r : List ℕ) (lo : ℕ)
        → length (lay_out t s r) + lo ≡ length r + end_of t lo
    lay_out-length (leaf i) s r lo = omega arith
    lay_out-length (seq i ks) s r lo = let h = lay_out_in-length ks s r (suc lo) in omega arith
    lay_out-length (par i ks) s r lo = let h = lay_out_in-length ks s.1 r (suc lo) in omega arith
    lay_out-length (ife i e ys ns) s r lo =
        let h = lay_out_in-length ys s.0 (lay_out_in ns s.1 r) (suc lo) in
        let g = lay_out_in-length ns s.1 r (ends_of ys (suc lo)) in
        omega arith
    lay_out-length (whl i e ks) s r lo = let h = lay_out_in-length ks s r (suc lo) in omega arith

    lay_out_in-length : (ks : Stmts) (s : StateIn ks) (r : List ℕ) (lo : ℕ)
        → length (lay_out_in ks s r) + lo ≡ length r + ends_of ks lo
    lay_out_in-length nil s r lo = refl
    lay_out_in-length (cons k ks) s r lo =
        lay_out-length k s.0 (lay_out_in ks s.1 r) lo ∙ lay_out_in-length ks s.1 r (end_of k lo)

-- ---- both lists of a walk
abbrev pub walk_with : (Column → List ℕ) → Bool → Walk
walk_with l z = record { marks = l in_marks; counts = l in_counts; looped = z }

pub walk_with-eq : (l m : Column → List ℕ) (z : Bool) → ((c : Column) → l c ≡ m c) → walk_with l z ≡ walk_with m z
walk_with-eq l m z h = λ i. record { marks = h in_marks i; counts = h in_counts i; looped = z }

abbrev pub write : (t : Stmt) → StateOf t → Surroundings → Bool → Walk
write t s K z = walk_with (λ c. reverse_aux (K c).before (lay_out c t s (K c).after)) z

abbrev pub write_in : (ks : Stmts) → StateIn ks → Surroundings → Bool → Walk
write_in ks s K z = walk_with (λ c. reverse_aux (K c).before (lay_out_in c ks s (K c).after)) z

-- below a statement that counts n; before later statements; past an earlier one, or past several
abbrev pub within : ℕ → Surroundings → Surroundings
within n K c = record { before = node_word c n ∷ (K c).before; after = (K c).after }

abbrev pub ahead : (ks : Stmts) → StateIn ks → Surroundings → Surroundings
ahead ks s K c = record { before = (K c).before; after = lay_out_in c ks s (K c).after }

abbrev pub past : (k : Stmt) → StateOf k → Surroundings → Surroundings
past k s K c = record { before = reverse_aux (lay_out c k s []) (K c).before; after = (K c).after }

abbrev pub past_in : (ks : Stmts) → StateIn ks → Surroundings → Surroundings
past_in ks s K c = record { before = reverse_aux (lay_out_in c ks s []) (K c).before; after = (K c).after }

pub past_write : (k : Stmt) (u : StateOf k) (ks : Stmts) (s : StateIn ks) (K : Surroundings) (z : Bool)
    → write k u (ahead ks s K) z ≡ write_in ks s (past k u K) z
past_write k u ks s K z =
    walk_with-eq _ _ z (λ c. lay_out-past c k u (K c).before (lay_out_in c ks s (K c).after))

pub past_in-write : (ys : Stmts) (u : StateIn ys) (ks : Stmts) (s : StateIn ks) (K : Surroundings) (z : Bool)
    → write_in ys u (ahead ks s K) z ≡ write_in ks s (past_in ys u K) z
past_in-write ys u ks s K z =
    walk_with-eq _ _ z (λ c. lay_out_in-past c ys u (K c).before (lay_out_in c ks s (K c).after))

-- ---- a tree at lo has lo words before it in either list
abbrev pub Fits : Surroundings → ℕ → Type 0
Fits K lo = (c : Column) → length (K c).before ≡ lo

pub within_fits : (n lo : ℕ) (K : Surroundings) → Fits K lo → Fits (within n K) (suc lo)
within_fits n lo K f c = ap suc (f c)

pub past-length : (c : Column) (k : Stmt) (u : StateOf k) (p : List ℕ)
    → length (reverse_aux (lay_out c k u []) p) ≡ end_of k (length p)
past-length c k u p = length-reverse_aux (lay_out c k u []) p ∙ lay_out-length c k u [] (length p) ∙ zero-add _

pub past_in-length : (c : Column) (ks : Stmts) (u : StateIn ks) (p : List ℕ)
    → length (reverse_aux (lay_out_in c ks u []) p) ≡ ends_of ks (length p)
past_in-length c ks u p = length-reverse_aux (lay_out_in c ks u []) p ∙ lay_out_in-length c ks u [] (length p) ∙ zero-add _

pub past_fits : (k : Stmt) (u : StateOf k) (lo : ℕ) (K : Surroundings) → Fits K lo → Fits (past k u K) (end_of k lo)
past_fits k u lo K f c = past-length c k u (K c).before ∙ ap (end_of k) (f c)

pub past_in-fits : (ks : Stmts) (u : StateIn ks) (lo : ℕ) (K : Surroundings) → Fits K lo
    → Fits (past_in ks u K) (ends_of ks lo)
past_in-fits ks u lo K f c = past_in-length c ks u (K c).before ∙ ap (ends_of ks) (f c)
