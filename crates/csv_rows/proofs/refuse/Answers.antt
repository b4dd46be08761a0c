use Rattle.csv_rows.proofs.Replies.{refused-at, refused-cut, refused-last, refused-more}
use borrow.Author.Rules.{rules}
use native.Mathlib.Omega.{arith}
use Rattle.csv_rows.proofs.refuse.Goals as goal

pub returns-then-e-s : goal.returns-then-e-s
returns-then-e-s c =
    let a = c.args in
    refused-at a.last a.cut a.s.now a.fault c.place_of.result c.byte_end-e.result c.place_of.ensures c.byte_end-e.ensures c.if-e-s.true

pub returns-then-cut : goal.returns-then-cut
returns-then-cut c =
    let a = c.args in
    refused-cut a.last a.cut a.s.now a.fault c.place_of.result c.byte_end-e.result c.place_of.ensures c.byte_end-e.ensures c.if-e-s.false c.if-cut.true

pub returns-then-last : goal.returns-then-last
returns-then-last c =
    let a = c.args in
    refused-last a.last a.cut a.s.now a.fault c.place_of.result c.byte_end-e.result c.place_of.ensures c.byte_end-e.ensures c.if-e-s.false c.if-cut.false c.if-last.true

pub returns : goal.returns
returns c =
    let a = c.args in
    refused-more a.last a.cut a.s.now a.fault c.place_of.result c.byte_end-e.result c.place_of.ensures c.byte_end-e.ensures c.if-e-s.false c.if-cut.false c.if-last.false
