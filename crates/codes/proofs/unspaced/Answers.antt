use mathlib.Core.Path.{sym, ap, ◌∙◌}
use native.Mathlib.Omega.{arith}
use borrow.Author.Rules.{rules}
use lib.ListN.{length}
use lib.Seq.{take-length}
use Rattle.codes.specs.Texts.{unspaced}
use Rattle.codes.proofs.Spaces.{byte-before, no_bytes}
use Rattle.codes.proofs.unspaced.Goals as goal

pub returns-then-n-eq0 : goal.returns-then-n-eq0
returns-then-n-eq0 c = (no_bytes c.args.s.now c.if-n-eq0.true, omega arith)

pub returns-then-s-n-eq32 : goal.returns-then-s-n-eq32
returns-then-s-n-eq32 c = (c.shed_each.ensures.0 ∙ c.shed_many.ensures.0, omega (arith, c.shed_each.ensures.1, c.shed_many.ensures.1))

pub returns : goal.returns
returns c =
    let s = c.args.s.now in
    (sym (byte-before s (length s) (omega arith) (omega arith) c.if-s-n-eq32.false) ∙ ap unspaced (take-length s), omega arith)
