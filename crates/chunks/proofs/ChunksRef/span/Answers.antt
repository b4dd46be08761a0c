use native.Mathlib.Omega.{arith}
use mathlib.Core.Path.{◌∙◌}
use borrow.Author.Rules.{rules}
use Rattle.chunks.proofs.Tables.{some-span, no_span}
use Rattle.chunks.proofs.ChunksRef.span.Goals as goal

pub returns-then-n-eq0 : goal.returns-then-n-eq0
returns-then-n-eq0 c = c.lent_span.ensures ∙ no_span c.args.self.table.now c.if-n-eq0.true

pub returns : goal.returns
returns c = c.lent_span-2.ensures ∙ some-span c.args.self.table.now c.if-n-eq0.false
