use mathlib.Core.Path.{sym, ◌∙◌}
use Rattle.sheets.proofs.Stepping.{skip-ends, skip-goes, skip-more, skip-nothing, stepped-none, stepped-wait}
use Rattle.sheets.proofs.Skips.{skip-ended, skip-on}
use borrow.Author.Rules.{rules}
use Rattle.sheets.proofs.skip_step.Goals as goal

pub behind-requires : goal.behind-requires
behind-requires c = skip-ended _ _ (sym c.skip_line.ensures ∙ c.in-Ended.is)

pub behind-requires-in-On : goal.behind-requires-in-On
behind-requires-in-On c = skip-on _ _ (sym c.skip_line.ensures ∙ c.in-On.is)

pub returns-in-Ended : goal.returns-in-Ended
returns-in-Ended c = skip-ends c.args.last c.args.block.now c.args.st (sym c.skip_line.ensures ∙ c.in-Ended.is) (stepped-none _ _ c.behind.ensures)

pub returns-in-On : goal.returns-in-On
returns-in-On c = skip-goes c.args.last c.args.block.now c.args.st (sym c.skip_line.ensures ∙ c.in-On.is) (stepped-none _ _ c.behind-in-On.ensures)

pub returns-in-Wait : goal.returns-in-Wait
returns-in-Wait c = skip-more c.args.last c.args.block.now c.args.st (sym c.skip_line.ensures ∙ c.in-Wait.is) stepped-wait

pub shape_of-out : goal.shape_of-out
shape_of-out c = search rules

pub returns-in-Over : goal.returns-in-Over
returns-in-Over c = skip-nothing c.args.last c.args.block.now c.args.st (sym c.skip_line.ensures ∙ c.in-Over.is) c.last_step.ensures
