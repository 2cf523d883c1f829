-- Whether a marked node stores, to which variable and what, told by its kind and the ranks of the marked OUT.
use mathlib.Core.Path.{◌≡◌, refl, sym, ap, ◌∙◌, subst}
use mathlib.Core.Bool.{Bool, true, false, cond, not, ◌&&◌, true≢false, and-true}
use mathlib.Core.List.{List, [], ◌∷◌}
use mathlib.Core.Option.{Option, some}
use mathlib.Core.Logic.{inl, inr}
use Prim.Native.Nat.{ℕ, zero, suc, ◌<◌}
use native.Mathlib.Nat.{lt_of_lt_of_le}
use native.Mathlib.Omega.{arith}
use lib.Dec.{eqb, eqb-suc-zero}
use lib.ListN.{get_or, set}
use Rattle.semantics.specs.Program.{Program, expr_count, node_count, kind_at, a_at, b_at, leaf_test}
use Rattle.semantics.specs.Program.Kind.{LEAF}
use Rattle.semantics.specs.Program.Leaf.{ASG, IN}
use Rattle.semantics.specs.Widths.{truncated}
use Rattle.semantics.specs.State.{marked}
use Rattle.semantics.specs.Completion.{is_asg, is_in, is_out, sent_by, store_value, marked_on, waits, stores, target, source}
use Rattle.semantics.specs.Completion.{store}
use Rattle.semantics.proofs.Lists.Logic.{and_left, and_right, or_cases}
use Rattle.player.specs.declared.claims.Claims.{Claims}
use Rattle.player.specs.Claims.{rank_of, rank_in}
use Rattle.player.specs.Channels.{marks_of, PairedEntry, has_kind}
use Rattle.player.specs.Stores.{StoresAt}
use Rattle.player.proofs.CycleLaws.{first_active, leaf_in, marked_node, node_in_fits, node_asg_variable, node_in_variable}
use Rattle.player.proofs.CycleLaws.{node_asg_expression, node_out_expression}
use Rattle.player.proofs.PairingLaws.{in_waits, never_waits}

-- ---- one node

module _ {P : Program} {claims : Claims} {i : ℕ} (x : PairedEntry P claims i) where
  -- the marks of its cycle
  abbrev marks : List ℕ
  marks = marks_of P x.entries

  -- the node stores
  abbrev entry_stores : Bool
  entry_stores = stores P marks i

  -- the expression that it stores
  abbrev entry_source : Option ℕ
  entry_source = source P marks i

  pub asg_stores : kind_at P.nodes i ≡ LEAF ASG → StoresAt P marks i (a_at P.nodes i) (b_at P.nodes i)
  asg_stores k = record {
    storing = rw (never_waits P marks i (λ e. cc) (λ e. cc), k);
    place = rw k;
    right_side = rw k;
  }

  -- an ASG or an IN
  in_kind : entry_stores ≡ true → has_kind P.nodes is_asg i ≡ false → has_kind P.nodes is_in i ≡ true
  in_kind h a =
      elim (or_cases (has_kind P.nodes is_asg i) (has_kind P.nodes is_in i)
      (and_right (not (waits P marks i)) _ h))
      [ inl e ↦ absurd (true≢false (sym e ∙ a)) | inr e ↦ e ]

  -- ---- the variable that it stores to

  pub target_inside : entry_stores ≡ true → target P marks i < P.variables
  target_inside h = pick (has_kind P.nodes is_asg i) refl
    where
      pick : (b : Bool) → has_kind P.nodes is_asg i ≡ b → cond b (a_at P.nodes i) (b_at P.nodes i) < P.variables
      pick true e = node_asg_variable x.cycle.accepted i x.within e
      pick false e = node_in_variable x.cycle.accepted i x.within (in_kind h e)

  pub target_fits : entry_stores ≡ true → target P marks i < 256
  target_fits h = lt_of_lt_of_le (target_inside h) x.cycle.accepted.sizes.variables_fit

  -- ---- the expression that it stores

  -- the OUT marked on the channel of an IN
  abbrev sent : List ℕ
  sent = marked_on P marks is_out (a_at P.nodes i)

  sender_out : {y : ℕ} {ys : List ℕ} → sent ≡ y ∷ ys → (marked marks y ≡ true)
      × (has_kind P.nodes is_out y ≡ true)
  sender_out {y} {ys} e =
      let h = first_active marks (λ j. has_kind P.nodes is_out j && eqb (a_at P.nodes j) (a_at P.nodes i)) y ys
      e in
      (h.0, and_left _ _ h.1)

  module _ (k : kind_at P.nodes i ≡ LEAF IN) where
    abbrev rank : ℕ
    rank = rank_in claims.outputs claims.stamp (a_at P.nodes i)

    in_stores : stores P marks i ≡ not (eqb rank 0)
    in_stores = rw (in_waits x.cycle i x.is_marked x.paired k, k) (and-true _)

    -- no OUT has claimed the channel
    pub in_alone : rank ≡ 0 → stores P marks i ≡ false
    in_alone r = in_stores ∙ rw r

    -- node j has
    module _ {j : ℕ} (r : rank ≡ suc j) where
      sent_first : (rest : List ℕ) × (sent ≡ j ∷ rest)
      sent_first =
          let fits = node_in_fits x.cycle.accepted i x.within (ap (leaf_test is_in) k) in
          pick sent refl (sym (x.paired.outputs (a_at P.nodes i) fits) ∙ r)
        where
          pick : (xs : List ℕ) → sent ≡ xs → rank_of xs ≡ suc j → (rest : List ℕ) × (sent ≡ j ∷ rest)
          pick [] e q = absurd (omega arith)
          pick (y ∷ ys) e q = let same : y ≡ j = omega arith in (ys, e ∙ ap (λ (n : ℕ). n ∷ ys) same)

      pub sender_node : j < node_count P.nodes
      sender_node = marked_node x.cycle j (sender_out sent_first.1).0

      pub in_stored : StoresAt P marks i (b_at P.nodes i) (b_at P.nodes j)
      in_stored = record {
        storing = in_stores ∙ rw (r, eqb-suc-zero j);
        place = rw k;
        right_side = rw k (ap (sent_by P.nodes) sent_first.1);
      }

  -- it stores the value of an expression
  pub some_source : entry_stores ≡ true → (e : ℕ) × StoresAt P marks i (target P marks i) e
  some_source h = pick (has_kind P.nodes is_asg i) refl
    where
      from : (rank : ℕ) → rank_in claims.outputs claims.stamp (a_at P.nodes i) ≡ rank → kind_at P.nodes i ≡ LEAF IN
          → (e : ℕ) × StoresAt P marks i (target P marks i) e
      from zero r k = absurd (true≢false (sym h ∙ in_alone k r))
      from (suc j) r k =
          let s = in_stored k r in
          (b_at P.nodes j, subst (λ (v : ℕ). StoresAt P marks i v (b_at P.nodes j)) s.place s)

      pick : (b : Bool) → has_kind P.nodes is_asg i ≡ b → (e : ℕ) × StoresAt P marks i (target P marks i) e
      pick true e = (b_at P.nodes i, record { storing = h; place = refl; right_side = rw e })
      pick false e = from _ refl (leaf_in (kind_at P.nodes i) (in_kind h e))

  pub source_inside : (e : ℕ) → entry_source ≡ some e → e < expr_count P.exprs
  source_inside e q = pick (has_kind P.nodes is_asg i) refl q
    where
      sends : (xs : List ℕ) → sent ≡ xs → sent_by P.nodes xs ≡ some e → e < expr_count P.exprs
      sends [] s q = absurd (let z : ◌≡◌ {A = ℕ} 0 1 = cc in omega arith)
      sends (y ∷ ys) s q =
          let same : b_at P.nodes y ≡ e = cc in
          let (is_marked, sends_out) = sender_out s in
          rw (sym same) (node_out_expression x.cycle.accepted y (marked_node x.cycle y is_marked) sends_out)

      pick : (b : Bool) → has_kind P.nodes is_asg i ≡ b
          → cond b (some (b_at P.nodes i)) (sent_by P.nodes sent) ≡ some e → e < expr_count P.exprs
      pick true k q =
          let same : b_at P.nodes i ≡ e = cc in
          rw (sym same) (node_asg_expression x.cycle.accepted i x.within k)
      pick false k q = sends sent refl q

  -- ---- its store

  module _ (table values : List ℕ) where
    pub stored : {v e : ℕ} → StoresAt P marks i v e
        → store P marks table values i ≡ set values v (truncated P.widths v (get_or table e 0))
    unfolding store
    stored s =
        rw (s.storing, s.place) (ap (store_value P.widths table values (target P marks i)) s.right_side)

    pub not_stored : entry_stores ≡ false → store P marks table values i ≡ values
    unfolding store
    not_stored s = rw s
