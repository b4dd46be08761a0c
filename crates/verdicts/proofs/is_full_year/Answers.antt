use mathlib.Core.Path.{sym, ◌∙◌}
use Rattle.scanner.proofs.Parts.{rest}
use Rattle.verdicts.proofs.Plain.{full-none, full-minus, full-else}
use Rattle.verdicts.proofs.is_full_year.Goals as goal

pub returns-then-s-eq0 : goal.returns-then-s-eq0
returns-then-s-eq0 c = sym (full-none c.args.s.now c.if-s-eq0.true)

pub returns-then-s-eq45 : goal.returns-then-s-eq45
returns-then-s-eq45 c =
    let s = c.args.s.now in
    let e = rw (rest s 1) at c.is_digits.ensures in
    e ∙ sym (full-minus s c.if-s-eq0.false c.if-s-eq45.true)

pub returns : goal.returns
returns c =
    let s = c.args.s.now in
    c.is_digits-2.ensures ∙ sym (full-else s c.if-s-eq0.false c.if-s-eq45.false)
