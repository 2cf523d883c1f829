-- The rules' kind of a kind in code, and of a word.
use Rattle.std.specs.Prelude.{◌≡◌, ℕ, Result, Ok, Err}
use Rattle.semantics.specs.Program.{Kind as RuleKind, Leaf as RuleLeaf, kind_of}
use Rattle.semantics.specs.Program.Kind.{SEQ, PAR, IF, WHL, LEAF, UNKNOWN}
use Rattle.semantics.specs.Program.Leaf.{ASG, IN, OUT, DLY}
use Rattle.program.specs.declared.kinds.Kind.{Kind}
use Rattle.program.specs.declared.kinds.Leaf.{Leaf as CodeLeaf}
use Rattle.program.specs.declared.kinds.UnknownKind.{UnknownKind}
use Rattle.program.specs.declared.kinds.Kind.TheVariants.{Seq, Par, If, Whl, Leaf}
use Rattle.program.specs.declared.kinds.Leaf.TheVariants.{Asg, In, Out, Dly}

abbrev pub rule_leaf : CodeLeaf → RuleLeaf
rule_leaf Asg = ASG
rule_leaf In = IN
rule_leaf Out = OUT
rule_leaf Dly = DLY

abbrev pub rule_kind : Kind → RuleKind
rule_kind Seq = SEQ
rule_kind Par = PAR
rule_kind If = IF
rule_kind Whl = WHL
rule_kind (Leaf l) = LEAF (rule_leaf l)

-- The rules' kind of what a word is read as.
abbrev pub read_kind : Result Kind UnknownKind → RuleKind
read_kind (Ok k) = rule_kind k
read_kind (Err _) = UNKNOWN

abbrev pub KindOfWord : ℕ → Result Kind UnknownKind → Type 0
KindOfWord word r = read_kind r ≡ kind_of word
