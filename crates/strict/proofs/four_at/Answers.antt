use lib.Seq.{drop-drop}
use Rattle.strict.specs.Matcher.{four, on}
use Rattle.strict.proofs.four_at.Goals as goal

pub returns-in_err-b : goal.returns-in_err-b
unfolding four on
returns-in_err-b c =
    rw c.from_residual-in_err-b.ensures (simp (drop-drop, ← c.two_at.ensures, c.in_ok-a.was, ← c.two_at-2.ensures, c.in_err-b.was))

pub returns : goal.returns
unfolding four on
returns c =
    simp (drop-drop, ← c.two_at.ensures, c.in_ok-a.was, ← c.two_at-2.ensures, c.in_ok-b.was, c.wide.ensures, ← c.wide-2.ensures)
