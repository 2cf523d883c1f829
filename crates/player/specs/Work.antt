-- What entering and leaving nodes work in beside the lent lists and the values: the number of marks, whether a zero-time
-- loop was met, the parents of the nodes and the masks of the variables.
use Rattle.std.specs.Prelude.{◌≡◌, false, List, ℕ, ◌-◌, ◌^◌, ◌≤◌, ◌<◌, length, get_or, replicate}
use Rattle.std.specs.Int.Bits.{bit_and}
use Rattle.semantics.specs.Program.{node_count, parent_at}
use Rattle.semantics.specs.Widths.{width_at}
use Rattle.semantics.specs.State.{mark_count}
use Rattle.player.specs.declared.work.Work.{Work}
use Rattle.player.specs.Memo.{new_memo}

-- What a run starts from.
abbrev pub new_work : Work
new_work = record {
  memo = new_memo;
  tally = 0;
  looped = false;
  parents = replicate 1024 0;
  masks = replicate 256 0;
}

-- The number of marks is known.
pub record Tallied (marks : List ℕ) (work : Work) : Type 0 where
  pub marks_fit : length marks ≤ 1024
  pub tally : work.tally ≡ mark_count marks

-- The parents are known.
abbrev pub Climbing : List ℕ → Work → Type 0
Climbing nodes work = (i : ℕ) → i < node_count nodes → get_or work.parents i 0 ≡ parent_at nodes i

-- The masks are known: the greatest value of each variable's width.
abbrev pub Masks : List ℕ → Work → Type 0
Masks widths work = (v : ℕ) → v < 256 → get_or work.masks v 0 ≡ 2 ^ width_at widths v - 1

-- What variable v keeps of a value by its mask.
abbrev pub masked_by : Work → ℕ → ℕ → ℕ
masked_by work v value = bit_and value (get_or work.masks v 0)

-- What no walk writes: the values, the parents and the masks.
pub record KeptTables (before work : Work) : Type 0 where
  pub variables : work.memo.variables ≡ before.memo.variables
  pub parents : work.parents ≡ before.parents
  pub masks : work.masks ≡ before.masks
