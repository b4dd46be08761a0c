use mathlib.Core.Path.{sym}
use mir.Syntax.{w32}
use Rattle.dates.proofs.Signs.{less-test}
use Rattle.chronology.proofs.Order.{sooner-first, sooner-later, sooner-neither}
use Rattle.chronology.proofs.sooner.Goals as goal

pub returns-then-a-b : goal.returns-then-a-b
returns-then-a-b c =
    let a = c.args.a in
    let b = c.args.b in
    sym (sooner-first a b c.args.other (less-test w32 a b c.ranges.a c.ranges.b c.if-a-b.true))

pub returns-then-b-a : goal.returns-then-b-a
returns-then-b-a c =
    let a = c.args.a in
    let b = c.args.b in
    sym (sooner-later a b c.args.other (less-test w32 a b c.ranges.a c.ranges.b c.if-a-b.false) (less-test w32 b a c.ranges.b c.ranges.a c.if-b-a.true))

pub returns : goal.returns
returns c =
    let a = c.args.a in
    let b = c.args.b in
    sym (sooner-neither a b c.args.other (less-test w32 a b c.ranges.a c.ranges.b c.if-a-b.false) (less-test w32 b a c.ranges.b c.ranges.a c.if-b-a.false))
