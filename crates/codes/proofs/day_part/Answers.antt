use borrow.Author.Tests.{lt-ltb, le-ltb}
use Rattle.codes.specs.Parts.{day_part}
use Rattle.chars.specs.Pick.{pick}
use native.Mathlib.Omega.{arith}
use borrow.Author.Rules.{rules}
use Rattle.codes.proofs.day_part.Goals as goal

pub returns-then-n-eq0 : goal.returns-then-n-eq0
unfolding day_part pick
returns-then-n-eq0 c = rw (← c.small-n.ensures, c.if-n-eq0.true)

pub returns-then-n-lt32 : goal.returns-then-n-lt32
unfolding day_part pick
returns-then-n-lt32 c =
    let n = c.small-n in
    rw (← n.ensures, lt-ltb 0 n.result (omega (arith, c.if-n-eq0.false)), lt-ltb n.result 32 c.if-n-lt32.true) (omega (arith, c.wide_part.ensures))

pub returns : goal.returns
unfolding day_part pick
returns c =
    let n = c.small-n in
    rw (← n.ensures, lt-ltb 0 n.result (omega (arith, c.if-n-eq0.false)), le-ltb n.result 32 c.if-n-lt32.false)
