use Rattle.chunks.specs.Format.{is_break}
use borrow.Author.Tests.{eq-eqb, ne_eqb}
use Rattle.chunks.proofs.is_break.Goals as goal

pub returns-then-code-eq-LINE_FEED : goal.returns-then-code-eq-LINE_FEED
unfolding is_break
returns-then-code-eq-LINE_FEED c = simp (eq-eqb _ _ c.if-code-eq-LINE_FEED.true)

pub returns-else-code-eq-LINE_FEED : goal.returns-else-code-eq-LINE_FEED
unfolding is_break
returns-else-code-eq-LINE_FEED c = simp (ne_eqb _ _ c.if-code-eq-LINE_FEED.false)
