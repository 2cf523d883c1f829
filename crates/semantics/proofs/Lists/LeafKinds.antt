-- The tests of a leaf's kind as tests of the kind's number: an ASG has 3, an IN 4 and an OUT 5, and no other kind
-- does. What question 4 says of the names of such a leaf comes with it.
use mathlib.Core.Path.{◌≡◌, refl, sym, ◌∙◌}
use mathlib.Core.Bool.{Bool, true, false, cond, ◌&&◌}
use Prim.Native.Nat.{ℕ, ◌<◌}
use lib.Dec.{eqb, ltb}
use borrow.Author.Tests.{eqb-true, ltb-true}
use Rattle.semantics.specs.Program.{Program, Leaf, expr_count, kind_of, leaf_test}
use Rattle.semantics.specs.Program.Kind.{SEQ, PAR, IF, WHL, LEAF, UNKNOWN}
use Rattle.semantics.specs.Program.Leaf.{ASG, IN, OUT, DLY}
use Rattle.semantics.specs.Check.{reference_words_ok}
use Rattle.semantics.specs.Completion.{is_asg, is_in, is_out}
use Rattle.semantics.proofs.Lists.Logic.{and_left, and_right}

cond_same : (b : Bool) → cond b false false ≡ false
cond_same true = refl
cond_same false = refl

test_number : (f : Leaf → Bool) (w : ℕ) → leaf_test f (kind_of w)
    ≡ cond (eqb w 1) false (cond (eqb w 2) false (cond (eqb w 3) (f ASG) (cond (eqb w 4) (f IN)
    (cond (eqb w 5) (f OUT) (cond (eqb w 6) false (cond (eqb w 7) false (cond (eqb w 8) (f DLY) false)))))))
unfolding kind_of
test_number f w = along (eqb w 1) (eqb w 2) (eqb w 3) (eqb w 4) (eqb w 5) (eqb w 6) (eqb w 7) (eqb w 8)
  where
    along : (a b c d e g h i : Bool)
        → leaf_test f (cond a SEQ (cond b PAR (cond c (LEAF ASG) (cond d (LEAF IN)
        (cond e (LEAF OUT) (cond g IF (cond h WHL (cond i (LEAF DLY) UNKNOWN))))))))
        ≡ cond a false (cond b false (cond c (f ASG) (cond d (f IN)
        (cond e (f OUT) (cond g false (cond h false (cond i (f DLY) false)))))))
    along true b c d e g h i = refl
    along false true c d e g h i = refl
    along false false true d e g h i = refl
    along false false false true e g h i = refl
    along false false false false true g h i = refl
    along false false false false false true h i = refl
    along false false false false false false true i = refl
    along false false false false false false false true = refl
    along false false false false false false false false = refl

-- a test that holds at the number n alone
only_at : (f : Leaf → Bool) (n w : ℕ) → leaf_test f (kind_of n) ≡ true → (eqb w n ≡ false → leaf_test f (kind_of w) ≡ false)
    → leaf_test f (kind_of w) ≡ eqb w n
only_at f n w there otherwise = pick (eqb w n) refl
  where
    pick : (b : Bool) → eqb w n ≡ b → leaf_test f (kind_of w) ≡ b
    pick true e = rw (eqb-true w n e) there
    pick false e = otherwise e

pub asg_number : (w : ℕ) → leaf_test is_asg (kind_of w) ≡ eqb w 3
unfolding kind_of
asg_number w = only_at is_asg 3 w refl (λ e. test_number is_asg w ∙ simp (e, cond_same))

pub in_number : (w : ℕ) → leaf_test is_in (kind_of w) ≡ eqb w 4
unfolding kind_of
in_number w = only_at is_in 4 w refl (λ e. test_number is_in w ∙ simp (e, cond_same))

pub out_number : (w : ℕ) → leaf_test is_out (kind_of w) ≡ eqb w 5
unfolding kind_of
out_number w = only_at is_out 5 w refl (λ e. test_number is_out w ∙ simp (e, cond_same))

-- ---- question 4 of a leaf

-- both names of a leaf are in range
two_names : (a b m n : ℕ) → ltb a m && ltb b n ≡ true → (a < m) × (b < n)
two_names a b m n h = (ltb-true a m (and_left _ _ h), ltb-true b n (and_right (ltb a m) _ h))

module _ (P : Program) (w a b : ℕ) (h : reference_words_ok P (kind_of w) a b ≡ true) where
  pub asg_names : leaf_test is_asg (kind_of w) ≡ true → (a < P.variables) × (b < expr_count P.exprs)
  unfolding kind_of reference_words_ok
  asg_names k =
      let e : w ≡ 3 = eqb-true w 3 (sym (asg_number w) ∙ k) in
      two_names a b P.variables (expr_count P.exprs) (rw e at h)

  pub in_names : leaf_test is_in (kind_of w) ≡ true → (a < P.channels) × (b < P.variables)
  unfolding kind_of reference_words_ok
  in_names k =
      let e : w ≡ 4 = eqb-true w 4 (sym (in_number w) ∙ k) in
      two_names a b P.channels P.variables (rw e at h)

  pub out_names : leaf_test is_out (kind_of w) ≡ true → (a < P.channels) × (b < expr_count P.exprs)
  unfolding kind_of reference_words_ok
  out_names k =
      let e : w ≡ 5 = eqb-true w 5 (sym (out_number w) ∙ k) in
      two_names a b P.channels (expr_count P.exprs) (rw e at h)
