use Rattle.findings.proofs.Runs.{both, ran-as}
use Rattle.findings.specs.Words.{fault_words}
use Rattle.findings.proofs.put_fault.Goals as goal

pub returns-in-QuoteInside : goal.returns-in-QuoteInside
unfolding fault_words
returns-in-QuoteInside c =
    ran-as c.put_placed.ensures (simp c.in-QuoteInside.is)

pub returns-in-TextBehind : goal.returns-in-TextBehind
unfolding fault_words
returns-in-TextBehind c =
    ran-as c.put_placed-in-TextBehind.ensures (simp c.in-TextBehind.is)

pub returns-in-LoneReturn : goal.returns-in-LoneReturn
unfolding fault_words
returns-in-LoneReturn c =
    ran-as c.put_placed-in-LoneReturn.ensures (simp c.in-LoneReturn.is)

pub returns-in-NeverClosed : goal.returns-in-NeverClosed
unfolding fault_words
returns-in-NeverClosed c =
    ran-as c.put_placed-in-NeverClosed.ensures (simp c.in-NeverClosed.is)

pub returns-in-TooLong : goal.returns-in-TooLong
unfolding fault_words
returns-in-TooLong c =
    ran-as (both c.put_placed-k.ensures c.put_piece.ensures) (simp c.in-TooLong.is)

pub returns-in-TooMany : goal.returns-in-TooMany
unfolding fault_words
returns-in-TooMany c =
    ran-as c.put_piece-in-TooMany.ensures (simp c.in-TooMany.is)
