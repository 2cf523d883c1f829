-- What the word holds that a call gives to C as its answer: the question number in the lowest 16 bits, and the fault
-- item in the next 16 bits.
use Rattle.std.specs.Prelude.{ℕ, ◌/◌, ◌%◌}

abbrev pub number_in : ℕ → ℕ
number_in word = word % 65536

abbrev pub item_in : ℕ → ℕ
item_in word = word / 65536
