-- Laws of what the code of read and sizes has found.
use mathlib.Core.Path.{◌≡◌, refl, sym, ap, ◌∙◌, subst}
use mathlib.Core.Bool.{Bool, true, false, ◌&&◌, ◌||◌}
use mathlib.Core.List.{List}
use Prim.Native.Nat.{ℕ, ◌+◌, ◌*◌, ◌≤◌}
use native.Mathlib.Nat.{zero-add}
use native.Mathlib.Omega.{arith}
use lib.Dec.{leb, ltb}
use lib.ListN.{length, take, drop, replicate, length-drop, length-replicate}
use lib.Seq.{paste, take-paste, drop-drop}
use borrow.Author.Tests.{ltb-false, le-ltb}
use Rattle.std.specs.Prelude.{Option, Some, None, MatchOption}
use Rattle.std.specs.Bool.{then_some}
use Rattle.std.specs.Option.{ok_or}
use Rattle.semantics.specs.Bytes.{words_of}
use Rattle.semantics.specs.Program.{Program}
use Rattle.semantics.specs.Check.{sizes_ok, fault_item}
use Rattle.semantics.specs.File.{Sizes, Parts, sizes_in, parts_at, parts_in, program_from, program_in, file_ok}
use Rattle.semantics.specs.FileCalls.{all_fit, sizes_answer}
use Rattle.semantics.proofs.Lists.FaultLaws.{no_item}
use Rattle.semantics.proofs.Lists.Logic.{or_left, or_right}
use Rattle.semantics.proofs.Lists.QuestionLaws.{sized_limits}
use Rattle.semantics.proofs.Files.BytesLaws.{length-words}
use Rattle.semantics.proofs.Files.FileLaws.{parts_in_fit}
use Rattle.semantics.proofs.Files.FileCallLaws.{sizes_yes, sizes_no}
use Rattle.program.specs.declared.refusal.Refusal.TheVariants.{Room}
use Rattle.program.specs.Answer.{program_of, CheckAnswer, answer_to}
use Rattle.program.proofs.CheckLaws.{first_1}
use Rattle.paper.specs.declared.lengths.FileSizes.{FileSizes}
use Rattle.paper.specs.Sizes.{sizes_from, AreSizes, given, SizesAnswer}

-- four numbers are the rules' sizes
pub sizes_answer_lem : (file : List ℕ) (n e v c : ℕ) → sizes_from n e v c ≡ sizes_answer file
    → SizesAnswer file n e v c
sizes_answer_lem file n e v c right = record {
  right_nodes = ap (λ (x : Sizes). x.nodes) right;
  right_exprs = ap (λ (x : Sizes). x.exprs) right;
  right_vars = ap (λ (x : Sizes). x.variables) right;
  right_chans = ap (λ (x : Sizes). x.channels) right;
}

pub given_answer : (file : List ℕ) (r : Option FileSizes) → MatchOption r (file_ok file ≡ false) (AreSizes file)
    → SizesAnswer file (given r).nodes (given r).exprs (given r).vars (given r).chans
given_answer file None none_there = sizes_answer_lem file 0 0 0 0 (sym (sizes_no file none_there))
given_answer file (Some s) known = sizes_answer_lem file _ _ _ _ (known.right ∙ sym (sizes_yes file known.is_file))

-- ---- what is asked of a file, by the lengths of its parts

refused_1 : (P : Program) → sizes_ok P ≡ false → CheckAnswer P 1 0
refused_1 P fails =
    let e = first_1 P fails in
    record { right_number = e; right_item = sym (no_item P 1 refl) ∙ ap (fault_item P) e }

-- the lengths in words: those of the expressions, of the nodes, and of the values and the widths each
module _ (file : List ℕ) (s : FileSizes) (are : AreSizes file s) (e n v : ℕ) (is_e : e ≡ 3 * s.exprs)
    (is_n : n ≡ 5 * s.nodes) (is_v : v ≡ s.vars) where
  -- question 13 asks of the lengths what the rules ask of the parts
  room_asked : (b : Parts)
      → leb e (length b.exprs) && leb n (length b.nodes) && leb v (length b.values) && leb v (length b.widths)
      ≡ all_fit (parts_in file) b
  room_asked b =
      let fit = parts_in_fit file are.is_file in
      rw (fit.exprs, fit.nodes, fit.values, fit.widths, is_e, is_n, is_v)
      (ap (λ (x : Sizes). leb (3 * x.exprs) (length b.exprs) && leb (5 * x.nodes) (length b.nodes)
      && leb x.variables (length b.values) && leb x.variables (length b.widths)) are.right)

  pub room_answer : (b : Parts) (fit : Bool)
      → fit ≡ (leb e (length b.exprs) && leb n (length b.nodes) && leb v (length b.values) && leb v (length b.widths))
      → ok_or (then_some fit tt) Room ≡ answer_to (all_fit (parts_in file) b) Room
  room_answer b true h = ap (λ (x : Bool). answer_to x Room) (h ∙ room_asked b)
  room_answer b false h = ap (λ (x : Bool). answer_to x Room) (h ∙ room_asked b)

  -- a part that is longer than any accepted program's
  pub too_long : ltb 3072 e || ltb 5120 n || ltb 256 s.vars ≡ true → CheckAnswer (program_in file) 1 0
  too_long long = refused_1 (program_in file) (pick (sizes_ok (program_in file)) refl)
    where
      pick : (b : Bool) → sizes_ok (program_in file) ≡ b → b ≡ false
      pick false fails = refl
      pick true passes =
          let l = sized_limits (program_in file) passes in
          let fit = parts_in_fit file are.is_file in
          let es : e ≤ 3072 = omega (arith, ap (λ (x : Sizes). x.exprs) are.right) in
          let ns : n ≤ 5120 = omega (arith, ap (λ (x : Sizes). x.nodes) are.right) in
          let vs : s.vars ≤ 256 = omega (arith, ap (λ (x : Sizes). x.variables) are.right) in
          sym long ∙ rw (le-ltb 3072 e es, le-ltb 5120 n ns, le-ltb 256 s.vars vs) refl

  -- the parts, by the places that their words are taken from
  parts_by_place : parts_in file ≡ record {
    exprs = take e (words_of file);
    nodes = take n (drop e (words_of file));
    values = take v (drop (e + n) (words_of file));
    widths = take v (drop (e + n + v) (words_of file));
  }
  parts_by_place =
      let words = words_of file in
      let nodes = drop-drop n e words in
      ap (λ (x : Sizes). parts_at x words) (sym are.right)
      ∙ (λ i. record {
        exprs = take (sym is_e i) words;
        nodes = take (sym is_n i) (drop (sym is_e i) words);
        values = take (sym is_v i) (drop (sym is_n i) (drop (sym is_e i) words));
        widths = take (sym is_v i) (drop (sym is_v i) (drop (sym is_n i) (drop (sym is_e i) words)));
      })
      ∙ (λ i. record {
        exprs = take e words;
        nodes = take n (drop e words);
        values = take v (nodes i);
        widths = take v ((ap (drop v) nodes ∙ drop-drop v (e + n) words) i);
      })

  -- the first words of a list of zeros that k words of the file are taken into, from a place on
  copied : (from k room : ℕ) (list : List ℕ) → list ≡ paste (replicate room 0) 0 (drop from (words_of file)) k
      → k ≤ room → from + k ≤ e + n + v + v → take k list ≡ take k (drop from (words_of file))
  copied from k room list same fits within =
      let words = drop from (words_of file) in
      let zeros : List ℕ = replicate room 0 in
      let z : length zeros ≡ room = length-replicate room 0 in
      let size = are.all_bytes in
      let all = length-words file in
      let enough : k ≤ length words = omega (arith, length-drop from (words_of file)) in
      ap (take k) same ∙ ap (λ (x : ℕ). take x (paste zeros 0 words k)) (sym (zero-add k))
      ∙ take-paste zeros 0 words k (omega arith) enough

  -- check is asked of the program in the file, where its parts are taken into lists of zeros
  pub asked_of_file : ltb 3072 e || ltb 5120 n || ltb 256 s.vars ≡ false → (exprs nodes widths : List ℕ)
      → exprs ≡ paste (replicate 3072 0) 0 (drop 0 (words_of file)) e
      → nodes ≡ paste (replicate 5120 0) 0 (drop e (words_of file)) n
      → widths ≡ paste (replicate 256 0) 0 (drop (e + n + v) (words_of file)) v → {q item : ℕ}
      → CheckAnswer (program_of (take e exprs) (take n nodes) (take v widths) s.vars s.chans) q item
      → CheckAnswer (program_in file) q item
  asked_of_file short exprs nodes widths es ns ws {q} {item} =
      let two = or_left (ltb 3072 e || ltb 5120 n) _ short in
      let vars = ltb-false 256 s.vars (or_right (ltb 3072 e || ltb 5120 n) _ short) in
      let first = copied 0 e 3072 exprs es (ltb-false _ _ (or_left (ltb 3072 e) _ two)) (omega arith) in
      let second = copied e n 5120 nodes ns (ltb-false _ _ (or_right (ltb 3072 e) _ two)) (omega arith) in
      let third = copied (e + n + v) v 256 widths ws (omega arith) (omega arith) in
      subst (λ (P : Program). CheckAnswer P q item)
      ((λ i. program_of (first i) (second i) (third i) (are.right i).variables (are.right i).channels)
      ∙ ap (program_from (sizes_in file)) (sym parts_by_place))
