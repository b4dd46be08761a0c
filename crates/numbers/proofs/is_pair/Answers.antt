use Rattle.chars.specs.Utf8.{is_cont}
use Rattle.chars.proofs.Cases.{and-true}
use Rattle.numbers.proofs.Trims.{pair_step}
use lib.Dec.{ltb, leb}
use lib.ListN.{get_or}
use mathlib.Core.Bool.{◌&&◌, false≢true}
use native.Mathlib.Omega.{arith}
use borrow.Author.Rules.{rules}
use borrow.Author.Tests.{ltb-true, leb-true}
use Rattle.numbers.proofs.is_pair.Goals as goal

pub returns-then-i-s : goal.returns-then-i-s
unfolding is_cont
returns-then-i-s c = λ e.
    let s = c.args.s.now in
    let i = c.args.i in
    let a = get_or s i 0 in
    let b = c.byte_at-b.result in
    let p = and-true (leb 0xC3 a && ltb a 0xE0) (leb 0x80 b && ltb b 0xC0) e in
    let x = and-true (leb 0xC3 a) (ltb a 0xE0) p.0 in
    pair_step s i c.if-i-s.true (leb-true 0xC3 a x.0) (ltb-true a 0xE0 x.1) (rw c.byte_at-b.ensures at p.1)

pub returns : goal.returns
returns c = λ e. absurd (false≢true e)
