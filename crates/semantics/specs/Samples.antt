-- The papers of the section "Sample papers" that are to be proved, three more, and those of requests 1 to 4, as one
-- list. Each begins and then runs, or is read from a file or written to one, through all the questions, as the calls
-- do, or is a climb, turn by turn; `proofs/Run/SamplesPass.antt` has the theorem on the list.
use Rattle.std.specs.Prelude.{Bool, true, false, ◌&&◌, List, [], ◌∷◌, ◌++◌, ℕ, eqb, length, replicate}
use Rattle.semantics.specs.Program.{Program, node_count}
use Rattle.semantics.specs.Expressions.{bit, is_true}
use Rattle.semantics.specs.State.{State}
use Rattle.semantics.specs.Walk.{Walk}
use Rattle.semantics.specs.Climb.{Turn, turn}
use Rattle.semantics.specs.Climb.Turn.{leaves_next, over}
use Rattle.semantics.specs.Check.{check_number, fault_item}
use Rattle.semantics.specs.Calls.{Answer, begin_answer, run_answer}
use Rattle.semantics.specs.File.{Sizes, Parts}
use Rattle.semantics.specs.FileCalls.{Reading, Writing, read_answer, write_answer, sizes_answer}
use Rattle.semantics.specs.SampleFiles.{delay_file, input_exprs, input_nodes, input_values, input_widths, input_trailer}
use Rattle.semantics.specs.SampleFiles.{input_file, faulty_file}

-- A paper: a program with starting values, the cycles asked and the book; what check, begin and run must answer.
pub record Paper : Type 0 where
  pub program : Program
  pub values : List ℕ
  pub cycles : ℕ
  pub book : List ℕ
  pub check_number : ℕ
  pub check_item : ℕ
  pub begin : Answer
  pub run : Answer

-- A climb: the values in which conditions are read, the node that the first turn leaves and those of the later turns,
-- and the marks and counts before and after.
pub record Climb : Type 0 where
  pub program : Program
  pub values : List ℕ
  pub first : ℕ
  pub later : List ℕ
  pub before : Walk
  pub after : Walk

-- A paper that is played; a file read into buffers, and a program and values written to a buffer, with what the call
-- must answer; a file with what sizes must give; a climb.
pub data Sample : Type 0 where
  played : Paper → Sample
  reads : List ℕ → Parts → Reading → Sample
  writes : Program → List ℕ → List ℕ → Writing → Sample
  sized : List ℕ → Sizes → Sample
  climbs : Climb → Sample

-- ---- samples that pass

abbrev pub same_list : List ℕ → List ℕ → Bool
same_list [] [] = true
same_list [] (y ∷ ys) = false
same_list (x ∷ xs) [] = false
same_list (x ∷ xs) (y ∷ ys) = eqb x y && same_list xs ys

abbrev pub same_answer : Answer → Answer → Bool
same_answer a b =
    eqb a.number b.number && eqb a.item b.item && eqb a.worked b.worked
    && same_list a.state.values b.state.values && same_list a.state.marks b.state.marks
    && same_list a.state.counts b.state.counts

abbrev pub same_reading : Reading → Reading → Bool
same_reading a b =
    eqb a.number b.number && eqb a.item b.item
    && same_list a.buffers.exprs b.buffers.exprs && same_list a.buffers.nodes b.buffers.nodes
    && same_list a.buffers.values b.buffers.values && same_list a.buffers.widths b.buffers.widths

abbrev pub same_writing : Writing → Writing → Bool
same_writing a b = eqb a.number b.number && eqb a.item b.item && same_list a.buffer b.buffer

abbrev pub same_sizes : Sizes → Sizes → Bool
same_sizes a b =
    eqb a.nodes b.nodes && eqb a.exprs b.exprs
    && eqb a.variables b.variables && eqb a.channels b.channels

-- Begin is lent marks of 1 and counts of 9, which it must ignore, and leave where it refuses.
abbrev pub lent : Program → List ℕ → State
lent P values =
    let n = node_count P.nodes in
    record { values = values; marks = replicate n 1; counts = replicate n 9 }

-- Run starts from what begin left.
abbrev pub plays : Paper → Bool
plays p =
    let begun_answer = begin_answer p.program (lent p.program p.values) in
    eqb (check_number p.program) p.check_number
    && eqb (fault_item p.program (check_number p.program)) p.check_item && same_answer begun_answer p.begin
    && same_answer (run_answer p.program p.cycles begun_answer.state p.book) p.run

abbrev pub same_walk : Walk → Walk → Bool
same_walk v w =
    same_list v.marks w.marks && same_list v.counts w.counts && eqb (bit v.looped) (bit w.looped)

-- The climb goes on with the nodes of the list, one after another, and is over after the last.
abbrev pub leaves_in_turn : (ℕ → Walk → Turn) → List ℕ → Turn → Walk → Bool
leaves_in_turn turn_of [] (leaves_next j w) after = false
leaves_in_turn turn_of [] (over w) after = same_walk w after
leaves_in_turn turn_of (i ∷ is) (leaves_next j w) after = eqb i j && leaves_in_turn turn_of is (turn_of j w) after
leaves_in_turn turn_of (i ∷ is) (over w) after = false

abbrev pub passes : Sample → Bool
passes (played p) = plays p
passes (reads file buffers r) = same_reading (read_answer file buffers) r
passes (writes P values buffer w) = same_writing (write_answer P values buffer) w
passes (sized file c) = same_sizes (sizes_answer file) c
passes (climbs c) =
    let turn_of = turn (is_true c.program c.values) c.program.nodes in
    leaves_in_turn turn_of c.later (turn_of c.first c.before) c.after

abbrev pub all_pass : List Sample → Bool
all_pass [] = true
all_pass (s ∷ ss) = passes s && all_pass ss

-- ---- how the list is written

abbrev pub expr : ℕ → ℕ → ℕ → List ℕ
expr op p q = op ∷ p ∷ q ∷ []

abbrev pub node : ℕ → ℕ → ℕ → ℕ → ℕ → List ℕ
node kind parent end a b = kind ∷ parent ∷ end ∷ a ∷ b ∷ []

-- expressions, nodes, widths, V, C
abbrev pub program_of : List ℕ → List ℕ → List ℕ → ℕ → ℕ → Program
program_of exprs nodes widths v c =
    record { exprs = exprs; nodes = nodes; widths = widths; variables = v; channels = c }

-- expressions, nodes, V, C; every variable is 16 bits wide
abbrev pub program : List ℕ → List ℕ → ℕ → ℕ → Program
program exprs nodes v c = program_of exprs nodes (replicate v 16) v c

-- number, cycles worked, values, marks, counts; the item is 0
abbrev pub gives : ℕ → ℕ → List ℕ → List ℕ → List ℕ → Answer
gives q k vs ms cs =
    record { number = q; item = 0; worked = k; state = record { values = vs; marks = ms; counts = cs } }

-- a program that check accepts: values, cycles, book, what begin gives, what run gives
abbrev pub paper : Program → List ℕ → ℕ → List ℕ → Answer → Answer → Sample
paper P vs n book b r = played (record {
  program = P;
  values = vs;
  cycles = n;
  book = book;
  check_number = 0;
  check_item = 0;
  begin = b;
  run = r;
})

-- a program that all three calls refuse, with a number and an item, when one cycle is asked: nothing is written
abbrev pub refused : Program → List ℕ → ℕ → ℕ → Sample
refused P vs q i =
    let a : Answer = record { number = q; item = i; worked = 0; state = lent P vs } in
    played (record {
      program = P;
      values = vs;
      cycles = 1;
      book = 1 ∷ [];
      check_number = q;
      check_item = i;
      begin = a;
      run = a;
    })

abbrev pub sizes : ℕ → ℕ → ℕ → ℕ → Sizes
sizes n e v c = record { nodes = n; exprs = e; variables = v; channels = c }

abbrev pub parts : List ℕ → List ℕ → List ℕ → List ℕ → Parts
parts es ns vs ws = record { exprs = es; nodes = ns; values = vs; widths = ws }

-- buffers of so many words, each 9
abbrev pub buffers_of : ℕ → ℕ → ℕ → ℕ → Parts
buffers_of e n v w = parts (replicate e 9) (replicate n 9) (replicate v 9) (replicate w 9)

-- a file that is not read: number, item, and the buffers as they were
abbrev pub unread : List ℕ → Parts → ℕ → ℕ → Sample
unread file b q i = reads file b (record { number = q; item = i; buffers = b })

-- a program and values that are not written into a buffer of so many bytes, each 7
abbrev pub unwritten : Program → List ℕ → ℕ → ℕ → ℕ → Sample
unwritten P vs n q i = writes P vs (replicate n 7) (record { number = q; item = i; buffer = replicate n 7 })

-- a program and values that are written into a buffer with a byte to spare
abbrev pub written : Program → List ℕ → List ℕ → Sample
written P vs file =
    writes P vs (replicate (length file) 5 ++ 7 ∷ []) (record { number = 0; item = 0; buffer = file ++ 7 ∷ [] })

-- marks and counts, where no zero-time loop was met
abbrev pub walk_of_lists : List ℕ → List ℕ → Walk
walk_of_lists ms cs = record { marks = ms; counts = cs; looped = false }

-- a climb in which no mark stands at first: the values, the first node that is left, those left after it, the counts
-- before, and the marks and counts after
abbrev pub climb : Program → List ℕ → ℕ → List ℕ → List ℕ → Walk → Sample
climb P vs i later counts after = climbs (record {
  program = P;
  values = vs;
  first = i;
  later = later;
  before = walk_of_lists (replicate (node_count P.nodes) 0) counts;
  after = after;
})

-- ---- the programs

-- DLY
abbrev pub delay : Program
delay = program [] (node 8 65535 1 0 0) 0 0

-- PAR{v0:=v1; v1:=v0}
abbrev pub swap : Program
swap = program (expr 1 0 0 ++ expr 1 1 0) (node 2 65535 3 0 0 ++ node 3 0 2 0 1 ++ node 3 0 3 1 0) 2 0

-- PAR{v0:=1; v0:=1}
abbrev pub same_target : Program
same_target = program (expr 0 1 0) (node 2 65535 3 0 0 ++ node 3 0 2 0 0 ++ node 3 0 3 0 0) 1 0

-- PAR{IN c0 v0; SEQ{DLY; OUT c0 5}}
abbrev pub handover : Program
handover =
    program (expr 0 5 0)
    (node 2 65535 5 0 0 ++ node 4 0 2 0 0 ++ node 1 0 5 0 0 ++ node 8 2 4 0 0 ++ node 5 2 5 0 0) 1 1

-- PAR{IN c0 v0; IN c0 v0}
abbrev pub two_inputs : Program
two_inputs = program [] (node 2 65535 3 0 0 ++ node 4 0 2 0 0 ++ node 4 0 3 0 0) 1 1

-- WHL 1 {WHL 0 {DLY}}
abbrev pub loop_at_once : Program
loop_at_once = program (expr 0 1 0 ++ expr 0 0 0) (node 7 65535 3 0 0 ++ node 7 0 3 1 0 ++ node 8 1 3 0 0) 0 0

-- PAR{WHL 0 {DLY}; WHL 0 {DLY}}
abbrev pub nothing_to_do : Program
nothing_to_do =
    program (expr 0 0 0)
    (node 2 65535 5 0 0 ++ node 7 0 3 0 0 ++ node 8 1 3 0 0 ++ node 7 0 5 0 0 ++ node 8 3 5 0 0) 0 0

-- WHL 1 {PAR{DLY; DLY}}
abbrev pub two_threads : Program
two_threads = program (expr 0 1 0) (node 7 65535 4 0 0 ++ node 2 0 4 0 0 ++ node 8 1 3 0 0 ++ node 8 1 4 0 0) 0 0

-- WHL v0 {v0:=v0−1}
abbrev pub countdown : Program
countdown = program (expr 1 0 0 ++ expr 0 1 0 ++ expr 3 0 1) (node 7 65535 2 0 0 ++ node 3 0 2 0 2) 1 0

-- WHL 1 {SEQ{WHL v0 {v0:=0}}}
abbrev pub loop_later : Program
loop_later =
    program (expr 0 1 0 ++ expr 1 0 0 ++ expr 0 0 0)
    (node 7 65535 4 0 0 ++ node 1 0 4 0 0 ++ node 7 1 4 1 0 ++ node 3 2 4 0 2) 1 0

-- PAR{IN c0 v0; v0:=1}
abbrev pub input_alone : Program
input_alone = program (expr 0 1 0) (node 2 65535 3 0 0 ++ node 4 0 2 0 0 ++ node 3 0 3 0 0) 1 1

-- PAR{v0:=0; WHL v0 {DLY}}
abbrev pub stored_condition : Program
stored_condition =
    program (expr 0 0 0 ++ expr 1 0 0) (node 2 65535 4 0 0 ++ node 3 0 2 0 0 ++ node 7 0 4 1 0 ++ node 8 2 4 0 0) 1 0

-- SEQ{PAR{DLY; SEQ{DLY; DLY}}; DLY}
abbrev pub uneven_threads : Program
uneven_threads =
    program []
    (node 1 65535 7 0 0 ++ node 2 0 6 0 0 ++ node 8 1 3 0 0 ++ node 1 1 6 0 0 ++ node 8 3 5 0 0 ++ node 8 3 6 0 0
    ++ node 8 0 7 0 0) 0 0

-- WHL 1 {v0:=v0+1}, with v0 of the given widths
abbrev pub counter : List ℕ → Program
counter widths =
    program_of (expr 0 1 0 ++ expr 1 0 0 ++ expr 2 1 0) (node 7 65535 2 0 0 ++ node 3 0 2 0 2) widths 1 0

-- PAR{OUT c0 v1+4; IN c0 v0; v1:=v1+4}, with v0 of 1 bit and v1 of 16 bits
abbrev pub one_bit_input : Program
one_bit_input =
    program_of (expr 1 1 0 ++ expr 0 4 0 ++ expr 2 0 1)
    (node 2 65535 4 0 0 ++ node 5 0 2 0 2 ++ node 4 0 3 0 0 ++ node 3 0 4 1 2) (1 ∷ 16 ∷ []) 2 1

-- WHL v0 {v0:=v0+1}, with v0 of 1 bit
abbrev pub one_bit_loop : Program
one_bit_loop =
    program_of (expr 1 0 0 ++ expr 0 1 0 ++ expr 2 0 1) (node 7 65535 2 0 0 ++ node 3 0 2 0 2) (1 ∷ []) 1 0

-- PAR{v0:=1; v1:=v0; v2:=v3}, of four variables: its expressions and its nodes
abbrev pub three_sources : List ℕ
three_sources = expr 0 1 0 ++ expr 1 0 0 ++ expr 1 3 0

abbrev pub three_stores : List ℕ
three_stores = node 2 65535 4 0 0 ++ node 3 0 2 0 0 ++ node 3 0 3 1 1 ++ node 3 0 4 2 2

-- with faults of question 2: expression 1 is a variable that is not there, and expression 2 has itself for an operand
abbrev pub faulty_sources : List ℕ
faulty_sources = expr 0 1 0 ++ expr 1 4 0 ++ expr 2 2 0

-- with faults of question 4: node 1 stores to v4, and node 2 the value of an expression that is not there
abbrev pub faulty_references : List ℕ
faulty_references = node 2 65535 4 0 0 ++ node 3 0 2 4 0 ++ node 3 0 3 1 3 ++ node 3 0 4 2 2

-- and with faults of question 3 besides: node 2 names another parent, and node 3 has no kind
abbrev pub faulty_nodes : List ℕ
faulty_nodes = node 2 65535 4 0 0 ++ node 3 0 2 4 0 ++ node 3 1 3 1 3 ++ node 99 0 4 2 2

-- with faults of question 11: v2 is 17 bits wide, and v3 is 0
abbrev pub faulty_widths : List ℕ
faulty_widths = 16 ∷ 1 ∷ 17 ∷ 0 ∷ []

-- SEQ{DLY; IF 0 {DLY}; WHL 0 {DLY}; v0:=1}
abbrev pub skipped : Program
skipped =
    program (expr 0 0 0 ++ expr 0 1 0)
    (node 1 65535 7 0 0 ++ node 8 0 2 0 0 ++ node 6 0 4 0 0 ++ node 8 2 4 0 0 ++ node 7 0 6 0 0 ++ node 8 4 6 0 0
    ++ node 3 0 7 0 1) 1 0

-- SEQ{SEQ{SEQ{DLY}}}
abbrev pub chain : Program
chain = program [] (node 1 65535 4 0 0 ++ node 1 0 4 0 0 ++ node 1 1 4 0 0 ++ node 8 2 4 0 0) 0 0

-- WHL 1 {SEQ{PAR{DLY; IF 1 {DLY}}; IF 0 {DLY}}}
abbrev pub thread_loop : Program
thread_loop =
    program (expr 0 1 0 ++ expr 0 0 0)
    (node 7 65535 8 0 0 ++ node 1 0 8 0 0 ++ node 2 1 6 0 0 ++ node 8 2 4 0 0 ++ node 6 2 6 0 0 ++ node 8 4 6 0 0
    ++ node 6 1 8 1 0 ++ node 8 6 8 0 0) 0 0

-- ---- the list

abbrev pub swap_begun : Answer
swap_begun = gives 0 0 (3 ∷ 7 ∷ []) (0 ∷ 1 ∷ 1 ∷ []) (2 ∷ 0 ∷ 0 ∷ [])

-- a book that question 7 refuses at once: nothing is worked
abbrev pub swap_refused : Answer
swap_refused = gives 7 0 (3 ∷ 7 ∷ []) (0 ∷ 1 ∷ 1 ∷ []) (2 ∷ 0 ∷ 0 ∷ [])

abbrev pub handover_begun : Answer
handover_begun = gives 0 0 (0 ∷ []) (0 ∷ 1 ∷ 0 ∷ 1 ∷ 0 ∷ []) (2 ∷ 0 ∷ 0 ∷ 0 ∷ 0 ∷ [])

abbrev pub two_begun : Answer
two_begun = gives 0 0 [] (0 ∷ 0 ∷ 1 ∷ 1 ∷ []) (0 ∷ 2 ∷ 0 ∷ 0 ∷ [])

abbrev pub two_again : Answer
two_again = gives 0 1 [] (0 ∷ 0 ∷ 1 ∷ 1 ∷ []) (0 ∷ 2 ∷ 0 ∷ 0 ∷ [])

abbrev pub counter_begun : ℕ → Answer
counter_begun v = gives 0 0 (v ∷ []) (0 ∷ 1 ∷ []) (0 ∷ 0 ∷ [])

-- nothing is written: the lists are those that begin is lent
abbrev pub counter_too_wide : Answer
counter_too_wide = gives 6 0 (4096 ∷ []) (1 ∷ 1 ∷ []) (9 ∷ 9 ∷ [])

abbrev pub skipped_begun : Answer
skipped_begun = gives 0 0 (0 ∷ []) (0 ∷ 1 ∷ 0 ∷ 0 ∷ 0 ∷ 0 ∷ 0 ∷ []) (replicate 7 0)

abbrev pub loop_marks : List ℕ
loop_marks = 0 ∷ 0 ∷ 0 ∷ 1 ∷ 0 ∷ 1 ∷ 0 ∷ 0 ∷ []

-- so many threads of the PAR are at work
abbrev pub loop_counts : ℕ → List ℕ
loop_counts n = 0 ∷ 0 ∷ n ∷ 0 ∷ 0 ∷ 0 ∷ 0 ∷ 0 ∷ []

-- four variables of value 0 and no channel: the expressions, nodes and widths are refused, by a number and an item
abbrev pub refused_stores : List ℕ → List ℕ → List ℕ → ℕ → ℕ → Sample
refused_stores exprs nodes widths q i = refused (program_of exprs nodes widths 4 0) (0 ∷ 0 ∷ 0 ∷ 0 ∷ []) q i

unfoldable pub samples : List Sample
samples =
    -- a DLY takes one cycle, and then nothing is marked
    paper delay [] 5 (0 ∷ []) (gives 0 0 [] (1 ∷ []) (0 ∷ [])) (gives 0 1 [] (0 ∷ []) (0 ∷ []))
    -- the swap, by a book in either order
    ∷ paper swap (3 ∷ 7 ∷ []) 5 (1 ∷ 2 ∷ []) swap_begun (gives 0 1 (7 ∷ 3 ∷ []) (0 ∷ 0 ∷ 0 ∷ []) (0 ∷ 0 ∷ 0 ∷ []))
    ∷ paper swap (3 ∷ 7 ∷ []) 5 (2 ∷ 1 ∷ []) swap_begun (gives 0 1 (7 ∷ 3 ∷ []) (0 ∷ 0 ∷ 0 ∷ []) (0 ∷ 0 ∷ 0 ∷ []))
    -- the swap, by a book that names one node twice, and by one that is too short
    ∷ paper swap (3 ∷ 7 ∷ []) 5 (1 ∷ 1 ∷ []) swap_begun swap_refused
    ∷ paper swap (3 ∷ 7 ∷ []) 5 (1 ∷ []) swap_begun swap_refused
    -- two stores to one variable, of equal values
    ∷ paper same_target (0 ∷ []) 5 (1 ∷ 2 ∷ [])
    (gives 0 0 (0 ∷ []) (0 ∷ 1 ∷ 1 ∷ []) (2 ∷ 0 ∷ 0 ∷ []))
    (gives 9 0 (0 ∷ []) (0 ∷ 1 ∷ 1 ∷ []) (2 ∷ 0 ∷ 0 ∷ []))
    -- a hand-over on a channel: begun, after its first cycle, and to its end
    ∷ paper handover (0 ∷ []) 0 [] handover_begun handover_begun
    ∷ paper handover (0 ∷ []) 1 (1 ∷ 3 ∷ []) handover_begun
    (gives 0 1 (0 ∷ []) (0 ∷ 1 ∷ 0 ∷ 0 ∷ 1 ∷ []) (2 ∷ 0 ∷ 0 ∷ 0 ∷ 0 ∷ []))
    ∷ paper handover (0 ∷ []) 5 (1 ∷ 3 ∷ 1 ∷ 4 ∷ []) handover_begun
    (gives 0 2 (5 ∷ []) (0 ∷ 0 ∷ 0 ∷ 0 ∷ 0 ∷ []) (0 ∷ 0 ∷ 0 ∷ 0 ∷ 0 ∷ []))
    -- two IN on one channel, with no OUT
    ∷ paper two_inputs (0 ∷ []) 5 (1 ∷ 2 ∷ [])
    (gives 0 0 (0 ∷ []) (0 ∷ 1 ∷ 1 ∷ []) (2 ∷ 0 ∷ 0 ∷ []))
    (gives 8 0 (0 ∷ []) (0 ∷ 1 ∷ 1 ∷ []) (2 ∷ 0 ∷ 0 ∷ []))
    -- a zero-time loop at once: begin leaves the lists as they were, which run then refuses
    ∷ paper loop_at_once [] 5 []
    (gives 10 0 [] (1 ∷ 1 ∷ 1 ∷ []) (9 ∷ 9 ∷ 9 ∷ []))
    (gives 6 0 [] (1 ∷ 1 ∷ 1 ∷ []) (9 ∷ 9 ∷ 9 ∷ []))
    -- a PAR whose children finish at once
    ∷ paper nothing_to_do [] 5 []
    (gives 0 0 [] (0 ∷ 0 ∷ 0 ∷ 0 ∷ 0 ∷ []) (0 ∷ 0 ∷ 0 ∷ 0 ∷ 0 ∷ []))
    (gives 0 0 [] (0 ∷ 0 ∷ 0 ∷ 0 ∷ 0 ∷ []) (0 ∷ 0 ∷ 0 ∷ 0 ∷ 0 ∷ []))
    -- a PAR in a loop comes back to where it began, by a book in either order
    ∷ paper two_threads [] 1 (2 ∷ 3 ∷ []) two_begun two_again
    ∷ paper two_threads [] 1 (3 ∷ 2 ∷ []) two_begun two_again
    -- a countdown from 1: the loop reads its condition after the store
    ∷ paper countdown (1 ∷ []) 5 (1 ∷ [])
    (gives 0 0 (1 ∷ []) (0 ∷ 1 ∷ []) (0 ∷ 0 ∷ []))
    (gives 0 1 (0 ∷ []) (0 ∷ 0 ∷ []) (0 ∷ 0 ∷ []))
    -- a zero-time loop in the first cycle: the cycle is refused, and v0 keeps its value
    ∷ paper loop_later (1 ∷ []) 5 (3 ∷ [])
    (gives 0 0 (1 ∷ []) (0 ∷ 0 ∷ 0 ∷ 1 ∷ []) (0 ∷ 0 ∷ 0 ∷ 0 ∷ []))
    (gives 10 0 (1 ∷ []) (0 ∷ 0 ∷ 0 ∷ 1 ∷ []) (0 ∷ 0 ∷ 0 ∷ 0 ∷ []))
    -- not of the rules document: a waiting IN stores nothing, so that question 9 is answered yes
    ∷ paper input_alone (0 ∷ []) 1 (1 ∷ 2 ∷ [])
    (gives 0 0 (0 ∷ []) (0 ∷ 1 ∷ 1 ∷ []) (2 ∷ 0 ∷ 0 ∷ []))
    (gives 0 1 (1 ∷ []) (0 ∷ 1 ∷ 0 ∷ []) (1 ∷ 0 ∷ 0 ∷ []))
    -- nor this: a loop reads what another thread stores in the same cycle, though its own entry comes first
    ∷ paper stored_condition (1 ∷ []) 5 (3 ∷ 1 ∷ [])
    (gives 0 0 (1 ∷ []) (0 ∷ 1 ∷ 0 ∷ 1 ∷ []) (2 ∷ 0 ∷ 0 ∷ 0 ∷ []))
    (gives 0 1 (0 ∷ []) (0 ∷ 0 ∷ 0 ∷ 0 ∷ []) (0 ∷ 0 ∷ 0 ∷ 0 ∷ []))
    -- nor this: a PAR with a thread left is not left
    ∷ paper uneven_threads [] 1 (2 ∷ 4 ∷ [])
    (gives 0 0 [] (0 ∷ 0 ∷ 1 ∷ 0 ∷ 1 ∷ 0 ∷ 0 ∷ []) (0 ∷ 2 ∷ 0 ∷ 0 ∷ 0 ∷ 0 ∷ 0 ∷ []))
    (gives 0 1 [] (0 ∷ 0 ∷ 0 ∷ 0 ∷ 0 ∷ 1 ∷ 0 ∷ []) (0 ∷ 1 ∷ 0 ∷ 0 ∷ 0 ∷ 0 ∷ 0 ∷ []))
    -- request 1: a counter of 12 bits passes 4,095; begin is lent rubbish for marks and counts and asks 6 of no mark
    ∷ paper (counter (12 ∷ [])) (4094 ∷ []) 1 (1 ∷ []) (counter_begun 4094)
    (gives 0 1 (4095 ∷ []) (0 ∷ 1 ∷ []) (0 ∷ 0 ∷ []))
    ∷ paper (counter (12 ∷ [])) (4094 ∷ []) 3 (1 ∷ 1 ∷ 1 ∷ []) (counter_begun 4094)
    (gives 0 3 (1 ∷ []) (0 ∷ 1 ∷ []) (0 ∷ 0 ∷ []))
    -- an input of 1 bit keeps 1 of the 7 that is sent, and the variable of 16 bits all of it
    ∷ paper one_bit_input (0 ∷ 3 ∷ []) 5 (1 ∷ 2 ∷ 3 ∷ [])
    (gives 0 0 (0 ∷ 3 ∷ []) (0 ∷ 1 ∷ 1 ∷ 1 ∷ []) (3 ∷ 0 ∷ 0 ∷ 0 ∷ []))
    (gives 0 1 (1 ∷ 7 ∷ []) (0 ∷ 0 ∷ 0 ∷ 0 ∷ []) (0 ∷ 0 ∷ 0 ∷ 0 ∷ []))
    -- a loop's condition reads what its variable kept: 2 is stored as 0 in 1 bit, and the loop ends
    ∷ paper one_bit_loop (1 ∷ []) 5 (1 ∷ [])
    (gives 0 0 (1 ∷ []) (0 ∷ 1 ∷ []) (0 ∷ 0 ∷ []))
    (gives 0 1 (0 ∷ []) (0 ∷ 0 ∷ []) (0 ∷ 0 ∷ []))
    -- a value too wide: begin and run refuse with 6
    ∷ paper (counter (12 ∷ [])) (4096 ∷ []) 3 (1 ∷ 1 ∷ 1 ∷ []) counter_too_wide counter_too_wide
    -- a width of 0, one of 17, and two widths for one variable
    ∷ refused (counter (0 ∷ [])) (0 ∷ []) 11 0
    ∷ refused (counter (17 ∷ [])) (0 ∷ []) 11 0
    ∷ refused (counter (16 ∷ 16 ∷ [])) (0 ∷ []) 11 0
    -- request 2: two faults or more of each of 2, 3, 4 and 11, mended question by question
    ∷ refused_stores faulty_sources faulty_nodes faulty_widths 2 1
    ∷ refused_stores three_sources faulty_nodes faulty_widths 3 2
    ∷ refused_stores three_sources faulty_references faulty_widths 4 1
    ∷ refused_stores three_sources three_stores faulty_widths 11 2
    -- a width too many or too few, beside those that are bad
    ∷ refused_stores three_sources three_stores (faulty_widths ++ 16 ∷ []) 11 0
    ∷ refused_stores three_sources three_stores (16 ∷ 17 ∷ 0 ∷ []) 11 0
    -- a word too many after the expressions, of which two are faulty
    ∷ refused_stores (faulty_sources ++ 0 ∷ []) three_stores faulty_widths 1 0
    -- request 3: two files, written and read, with a byte and words to spare
    ∷ written delay [] delay_file
    ∷ reads delay_file (buffers_of 1 6 1 1) (record {
      number = 0;
      item = 0;
      buffers = parts (9 ∷ []) (node 8 65535 1 0 0 ++ 9 ∷ []) (9 ∷ []) (9 ∷ []);
    })
    ∷ written one_bit_input (300 ∷ 5 ∷ []) input_file
    ∷ reads input_file (buffers_of 10 21 3 3) (record {
      number = 0;
      item = 0;
      buffers = parts (one_bit_input.exprs ++ 9 ∷ []) (one_bit_input.nodes ++ 9 ∷ [])
          (300 ∷ 5 ∷ 9 ∷ []) (1 ∷ 16 ∷ 9 ∷ []);
    })
    ∷ sized input_file (sizes 4 3 2 1)
    -- bytes that are no file: a byte too many, another distance, two bytes in front; there are no sizes then
    ∷ unread (input_file ++ 0 ∷ []) (buffers_of 9 20 2 2) 12 0
    ∷ unread (input_exprs ++ input_nodes ++ input_values ++ input_widths ++ input_trailer 5) (buffers_of 9 20 2 2) 12 0
    ∷ unread (0 ∷ 0 ∷ input_file) (buffers_of 9 20 2 2) 12 0
    ∷ sized (0 ∷ 0 ∷ input_file) (sizes 0 0 0 0)
    -- a file whose program is refused, and which has sizes; first the buffers are too short besides
    ∷ unread faulty_file (buffers_of 8 20 2 2) 2 1
    ∷ unread faulty_file (buffers_of 9 20 2 2) 2 1
    ∷ sized faulty_file (sizes 4 3 2 1)
    -- each buffer too short by one
    ∷ unread input_file (buffers_of 8 20 2 2) 13 0
    ∷ unread input_file (buffers_of 9 19 2 2) 13 0
    ∷ unread input_file (buffers_of 9 20 1 2) 13 0
    ∷ unread input_file (buffers_of 9 20 2 1) 13 0
    ∷ unwritten one_bit_input (300 ∷ 5 ∷ []) 81 13 0
    -- a value too many, with a buffer too short; and a program that is refused besides
    ∷ unwritten one_bit_input (300 ∷ 5 ∷ 0 ∷ []) 81 5 0
    ∷ unwritten (program_of faulty_sources three_stores (1 ∷ 16 ∷ []) 2 1) (300 ∷ 5 ∷ 0 ∷ []) 81 2 1
    -- request 4: next children that finish at once are left in their turns, up to one that stays
    ∷ paper skipped (0 ∷ []) 1 (1 ∷ []) skipped_begun
    (gives 0 1 (0 ∷ []) (0 ∷ 0 ∷ 0 ∷ 0 ∷ 0 ∷ 0 ∷ 1 ∷ []) (replicate 7 0))
    ∷ climb skipped (0 ∷ []) 1 (2 ∷ 4 ∷ []) (replicate 7 0)
    (walk_of_lists (0 ∷ 0 ∷ 0 ∷ 0 ∷ 0 ∷ 0 ∷ 1 ∷ []) (replicate 7 0))
    ∷ paper skipped (0 ∷ []) 5 (1 ∷ 6 ∷ []) skipped_begun (gives 0 2 (1 ∷ []) (replicate 7 0) (replicate 7 0))
    ∷ climb skipped (1 ∷ []) 6 (0 ∷ []) (replicate 7 0) (walk_of_lists (replicate 7 0) (replicate 7 0))
    -- as many turns as there are nodes
    ∷ paper chain [] 5 (3 ∷ []) (gives 0 0 [] (0 ∷ 0 ∷ 0 ∷ 1 ∷ []) (replicate 4 0))
    (gives 0 1 [] (replicate 4 0) (replicate 4 0))
    ∷ climb chain [] 3 (2 ∷ 1 ∷ 0 ∷ []) (replicate 4 0) (walk_of_lists (replicate 4 0) (replicate 4 0))
    -- two threads, by a book in either order: the second climb leaves the PAR, and the loop begins again
    ∷ paper thread_loop [] 1 (3 ∷ 5 ∷ []) (gives 0 0 [] loop_marks (loop_counts 2))
    (gives 0 1 [] loop_marks (loop_counts 2))
    ∷ climb thread_loop [] 3 [] (loop_counts 2) (walk_of_lists (replicate 8 0) (loop_counts 1))
    ∷ climb thread_loop [] 5 (4 ∷ 2 ∷ 6 ∷ 1 ∷ []) (loop_counts 1) (walk_of_lists loop_marks (loop_counts 2))
    ∷ paper thread_loop [] 1 (5 ∷ 3 ∷ []) (gives 0 0 [] loop_marks (loop_counts 2))
    (gives 0 1 [] loop_marks (loop_counts 2))
    ∷ climb thread_loop [] 5 (4 ∷ []) (loop_counts 2) (walk_of_lists (replicate 8 0) (loop_counts 1))
    ∷ climb thread_loop [] 3 (2 ∷ 6 ∷ 1 ∷ []) (loop_counts 1) (walk_of_lists loop_marks (loop_counts 2))
    -- a WHL that is false is left; one that is true, and finishes at once, is a zero-time loop, and is left as well
    ∷ climb loop_later (0 ∷ []) 3 (2 ∷ 1 ∷ 0 ∷ []) (replicate 4 0)
    (record { marks = replicate 4 0; counts = replicate 4 0; looped = true })
    ∷ []
