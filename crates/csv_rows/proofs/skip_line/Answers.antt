use mathlib.Core.Path.{sym}
use lib.Seq.{length-take-le}
use Rattle.csv_rows.proofs.Replies.{skip-window, skip-on, skip_at, skip-over, skip-end, skip-wait}
use borrow.Author.Rules.{rules}
use native.Mathlib.Omega.{arith}
use Rattle.csv_rows.proofs.skip_line.Goals as goal

pub slice_bounds-byte_end-end : goal.slice_bounds-byte_end-end
slice_bounds-byte_end-end c = sym (length-take-le 65536 c.args.s.now (omega arith))

pub returns-then-e-lt65536 : goal.returns-then-e-lt65536
returns-then-e-lt65536 c =
    let a = c.args in
    skip-window a.last a.s.now c.byte_end-e.result c.if-s-ge65536.true c.byte_end-e.ensures c.if-e-lt65536.true

pub returns-then-s-ge65536 : goal.returns-then-s-ge65536
returns-then-s-ge65536 c =
    let a = c.args in
    skip-on a.last a.s.now c.byte_end-e.result c.if-s-ge65536.true c.byte_end-e.ensures c.if-e-lt65536.false

pub returns-then-e-s : goal.returns-then-e-s
returns-then-e-s c =
    let a = c.args in
    skip_at a.last a.s.now c.byte_end-e-2.result c.if-s-ge65536.false c.byte_end-e-2.ensures c.if-e-s.true

pub returns-then-s-eq0 : goal.returns-then-s-eq0
returns-then-s-eq0 c =
    let a = c.args in
    skip-over a.last a.s.now c.byte_end-e-2.result c.if-s-ge65536.false c.byte_end-e-2.ensures c.if-e-s.false c.if-last.true c.if-s-eq0.true

pub returns-then-last : goal.returns-then-last
returns-then-last c =
    let a = c.args in
    skip-end a.last a.s.now c.byte_end-e-2.result c.if-s-ge65536.false c.byte_end-e-2.ensures c.if-e-s.false c.if-last.true c.if-s-eq0.false

pub returns : goal.returns
returns c =
    let a = c.args in
    skip-wait a.last a.s.now c.byte_end-e-2.result c.if-s-ge65536.false c.byte_end-e-2.ensures c.if-e-s.false c.if-last.false
