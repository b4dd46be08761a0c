use mathlib.Core.Path.{sym, ◌∙◌}
use native.Mathlib.Omega.{arith}
use Rattle.hexes.proofs.Laws.{odd, long, foreign, good}
use borrow.Author.Rules.{rules}
use Rattle.hexes.proofs.decode.Goals as goal

pub returns-then-line-ne0 : goal.returns-then-line-ne0
returns-then-line-ne0 c =
    let both = odd c.args.line.now c.args.frame.now c.if-line-ne0.true in record { value = both.0; frame_after = both.1 }

pub returns-then-frame-line : goal.returns-then-frame-line
returns-then-frame-line c =
    let both = long c.args.line.now c.args.frame.now c.if-line-ne0.false c.if-frame-line.true in record { value = both.0; frame_after = both.1 }

pub put_bytes-requires : goal.put_bytes-requires
put_bytes-requires c =
    (sym c.all_digits.ensures ∙ c.if-all_digits.true, omega arith)

pub returns-then-all_digits : goal.returns-then-all_digits
returns-then-all_digits c =
    let e = sym c.all_digits.ensures ∙ c.if-all_digits.true in
    let g = good c.args.line.now c.args.frame.now c.if-line-ne0.false (omega arith) e in
    record { value = g.0; frame_after = c.put_bytes.ensures ∙ g.1 }

pub returns : goal.returns
returns c =
    let both = foreign c.args.line.now c.args.frame.now c.if-line-ne0.false (omega arith) (sym c.all_digits.ensures ∙ c.if-all_digits.false) in record { value = both.0; frame_after = both.1 }
