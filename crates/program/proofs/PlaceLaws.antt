-- The places of nodes grow by one node at a time: a new node has no child yet, and is one more child of its parent.
use Rattle.std.proofs.Common.{◌≡◌, ℕ, ◌+◌, ◌<◌, ◌≤◌, Bool, true, false, cond, List, length, get_or, set, Option, None, Some, unwrap_or, sym, refl, ap, ◌∙◌, arith, zero-add, add-zero, add-one, length-set, eq-eqb, ne_eqb}
use Rattle.std.proofs.Math.Option.{Option as Maybe, none, some}
use Rattle.semantics.specs.Numbers.{up_from, filter}
use Rattle.semantics.specs.Parents.{parent, depth, is_node, is_child}
use Rattle.semantics.proofs.Lists.ListLaws.{set_reads}
use Rattle.semantics.proofs.Lists.NumberLaws.{count, count_suc, count_add, count_none, count_most}
use Rattle.semantics.proofs.Lists.ParentLaws.{is_parent, depth_parent}
use Rattle.semantics.proofs.Lists.ParentSearch.{depth_low}
use Rattle.program.specs.declared.tree.Place.{Place}
use Rattle.program.specs.Places.{parent_in, parent_of_word, IsPlace, Places}

count_one_more : (f : ℕ → Bool) (n : ℕ) → count f (n + 1) 0 ≡ cond (f n) (count f n 0 + 1) (count f n 0)
unfolding filter up_from
count_one_more f n =
    count_add f n 1 0 ∙ rw (zero-add n) (ap (λ (k : ℕ). count f n 0 + k) (count_suc f 0 n) ∙ pick (f n) (count f n 0))
  where
    pick : (b : Bool) (k : ℕ) → k + cond b 1 0 ≡ cond b (k + 1) k
    pick true k = refl
    pick false k = add-zero k

module _ (nodes : List ℕ) (n : ℕ) where
  -- ---- the place of a new node

  pub parent_low : (h : ℕ) → some h ≡ parent nodes n → h < n
  parent_low h e = (is_parent nodes n h (sym e)).lower

  -- the number of a parent is no word for none, for there are fewer nodes
  word_of_parent : n < 1024 → (above : Option ℕ) → parent_in above ≡ parent nodes n
      → parent_of_word (unwrap_or above 65535) ≡ parent nodes n
  word_of_parent few None e = e
  word_of_parent few (Some h) e =
      let low = parent_low h e in
      rw (ne_eqb h 65535 (λ q. omega arith)) e

  -- no node up to the new one has it as its parent
  no_child : (j : ℕ) → j < n + 1 → is_child nodes n j ≡ false
  no_child j l = pick (parent nodes j) refl
    where
      pick : (o : Maybe ℕ) → parent nodes j ≡ o → is_node n o ≡ false
      pick none e = refl
      pick (some g) e = let low = (is_parent nodes j g e).lower in ne_eqb g n (λ q. omega arith)

  new_place : n < 1024 → (above : Option ℕ) → parent_in above ≡ parent nodes n → (d : ℕ) → d ≡ depth nodes n
      → IsPlace nodes (n + 1) n (record { parent = unwrap_or above 65535; depth = d; child_count = 0 })
  new_place few above e d deep = record {
    right_parent = word_of_parent few above e;
    right_depth = deep;
    right_children = sym (count_none (is_child nodes n) (n + 1) 0 (λ j l u. no_child j (omega arith)));
  }

  -- ---- the places of the nodes before it, where the new node is counted among the children
  abbrev pub Counted : List Place → Type 0
  Counted places = (i : ℕ) (d : Place) → i < n → IsPlace nodes (n + 1) i (get_or places i d)

  same_children : (i : ℕ) {place : Place} → is_child nodes i n ≡ false → IsPlace nodes n i place
      → IsPlace nodes (n + 1) i place
  same_children i e p = record {
    right_parent = p.right_parent;
    right_depth = p.right_depth;
    right_children = p.right_children ∙ sym (count_one_more (is_child nodes i) n ∙ rw e);
  }

  one_child_more : (i : ℕ) {place : Place} → is_child nodes i n ≡ true → IsPlace nodes n i place
      → IsPlace nodes (n + 1) i
      (record { parent = place.parent; depth = place.depth; child_count = place.child_count + 1 })
  one_child_more i e p = record {
    right_parent = p.right_parent;
    right_depth = p.right_depth;
    right_children = ap (λ (k : ℕ). k + 1) p.right_children ∙ sym (count_one_more (is_child nodes i) n ∙ rw e);
  }

  pub counted_none : {places : List Place} → none ≡ parent nodes n → Places nodes n places → Counted places
  counted_none e p i d l = same_children i (ap (is_node i) (sym e)) (p.right i d l)

  -- where there is a parent, it is counted at
  module _ (places : List Place) (p : Places nodes n places) (h : ℕ) (e : some h ≡ parent nodes n) (d : Place) where
    parent_placed : IsPlace nodes n h (get_or places h d)
    parent_placed = p.right h d (parent_low h e)

    pub deeper : (get_or places h d).depth + 1 ≡ depth nodes n
    deeper = rw (parent_placed.right_depth, add-one) (sym (depth_parent nodes n h (sym e)))

    -- the parent is in the table, and one more fits what is kept of it
    pub parent_fits : (h < 1024) × ((get_or places h d).depth ≤ 1024) × ((get_or places h d).child_count ≤ 1024)
    parent_fits =
        let low = parent_low h e in
        let fits = p.fits in
        let deep = deeper in
        let few = depth_low nodes n in
        let kids = parent_placed.right_children in
        let most = count_most (is_child nodes h) n 0 in
        (omega arith, omega arith, omega arith)

    abbrev pub more : Place
    more =
        let old = get_or places h d in
        record { parent = old.parent; depth = old.depth; child_count = old.child_count + 1 }

    pub counted_some : Counted (set places h more)
    counted_some i o l =
        let fits = p.fits in
        let size = p.size in
        let low = parent_low h e in
        set_reads places h more o (omega arith) (IsPlace nodes (n + 1))
        (one_child_more h (ap (is_node h) (sym e) ∙ eq-eqb h h refl) parent_placed) i
        (λ q. same_children i (ap (is_node i) (sym e) ∙ ne_eqb h i (λ s. q (sym s))) (p.right i o l))

  -- ---- one more node
  pub grow : (places : List Place) → length places ≡ 1024 → n < 1024 → Counted places
      → (above : Option ℕ) → parent_in above ≡ parent nodes n → (d : ℕ) → d ≡ depth nodes n
      → Places nodes (n + 1) (set places n (record { parent = unwrap_or above 65535; depth = d; child_count = 0 }))
  grow places size few before above e d deep =
      let new = new_place few above e d deep in
      record {
        size = simp length-set size;
        fits = omega arith;
        right = λ i o l. set_reads places n _ o (omega arith) (IsPlace nodes (n + 1)) new i (λ q. before i o (omega arith));
      }
