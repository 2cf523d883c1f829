-- What the word holds that run gives to C as its answer: the question number in the lowest 16 bits, the fault item in the next
-- 16 bits, and above them the cycles worked.
use Rattle.std.specs.Prelude.{ℕ, ◌/◌, ◌%◌}

abbrev pub item_of_run_in : ℕ → ℕ
item_of_run_in word = word / 65536 % 65536

abbrev pub worked_in : ℕ → ℕ
worked_in word = word / 4294967296
