-- `decimal::word_of` meets its contract: after each byte, what is left of the digits says the word (`ReadTo`).
use Rattle.play.proofs.DecimalLaws.{ReadTo}
use Rattle.play.proofs.decimal.word_of.Given as goal

abbrev pub invariant-loop-digit : goal.invariant-loop-digit
invariant-loop-digit l = ReadTo l.digits l.value l.digit-index
