-- `decimal::word_of` meets its contract: after a further digit, what is left of the digits says the word. The check finds the
-- other goals by the laws that the function names.
use Rattle.std.proofs.Common.{sym, arith}
use Rattle.play.proofs.DecimalLaws.{further}
use Rattle.play.proofs.decimal.word_of.Goals as goal

pub loop-digit-preserved : goal.loop-digit-preserved
loop-digit-preserved c =
    further _ _ _ c.loop-digit.invariant c.loop-digit-test.true _ (sym c.if-not-is_ascii_digit.ensures.value)
    (omega (arith, c.from.ensures)) (omega (arith, c.if-value-gt-WORD_MAX.false))
