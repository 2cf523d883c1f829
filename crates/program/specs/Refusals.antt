-- The number of the question that a refusal answers no, and the item that comes with it.
use Rattle.std.specs.Prelude.{ℕ}
use Rattle.program.specs.declared.refusal.Refusal.{Refusal}
use Rattle.program.specs.declared.refusal.Refusal.TheVariants.{Sizes, Expr, Node, Reference, Lengths, State, Entries, Channels, Stores, Loop, Width, File, Room}

abbrev pub question_number : Refusal → ℕ
question_number Sizes = 1
question_number (Expr i) = 2
question_number (Node i) = 3
question_number (Reference i) = 4
question_number Lengths = 5
question_number State = 6
question_number Entries = 7
question_number Channels = 8
question_number Stores = 9
question_number Loop = 10
question_number (Width v) = 11
question_number File = 12
question_number Room = 13

abbrev pub fault_in : Refusal → ℕ
fault_in Sizes = 0
fault_in (Expr i) = i
fault_in (Node i) = i
fault_in (Reference i) = i
fault_in Lengths = 0
fault_in State = 0
fault_in Entries = 0
fault_in Channels = 0
fault_in Stores = 0
fault_in Loop = 0
fault_in (Width v) = v
fault_in File = 0
fault_in Room = 0
