use Rattle.fields.proofs.Letters.{letters_other_length, letters-not, letters-on, letters-end}
use lib.ListN.{length}
use borrow.Author.Tests.{le-leb}
use native.Mathlib.Omega.{arith}
use mathlib.Core.Path.{sym, ◌∙◌}
use Rattle.fields.proofs.same_letters.Goals as goal

pub returns-then-t-name : goal.returns-then-t-name
returns-then-t-name c = sym (letters_other_length c.args.name.now c.args.t.now c.if-t-name.true)

pub returns-then-x-lower : goal.returns-then-x-lower
returns-then-x-lower c =
    let a = c.args in
    let l = c.loop-i in
    sym (letters-not a.name.now a.t.now l.i c.loop-i-test.true _ (omega arith) c.lower.ensures c.if-x-lower.true) ∙ l.invariant

pub loop-i-preserved : goal.loop-i-preserved
loop-i-preserved c =
    let a = c.args in
    let l = c.loop-i in
    sym (letters-on a.name.now a.t.now l.i c.loop-i-test.true _ (omega arith) c.lower.ensures c.if-x-lower.false) ∙ l.invariant

pub returns : goal.returns
returns c =
    let a = c.args in
    let l = c.loop-i in
    sym (letters-end a.name.now a.t.now l.i c.loop-i-test.false ∙ le-leb (length a.t.now) l.i (omega arith)) ∙ l.invariant
