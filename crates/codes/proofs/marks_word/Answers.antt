use mathlib.Core.Path.{refl}
use Rattle.codes.proofs.marks_word.Goals as goal

pub returns-then-approximate : goal.returns-then-approximate
returns-then-approximate c = rw (c.if-uncertain.true, c.if-approximate.true) refl

pub returns-then-uncertain : goal.returns-then-uncertain
returns-then-uncertain c = rw (c.if-uncertain.true, c.if-approximate.false) refl

pub returns-then-approximate-2 : goal.returns-then-approximate-2
returns-then-approximate-2 c = rw (c.if-uncertain.false, c.if-approximate-2.true) refl

pub returns : goal.returns
returns c = rw (c.if-uncertain.false, c.if-approximate-2.false) refl
