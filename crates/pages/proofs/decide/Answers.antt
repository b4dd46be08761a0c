use Rattle.pages.proofs.Answers.{too_many, bad-shape, no-space, by-pieces}
use borrow.Author.Tests.{not-true, not-false}
use mathlib.Core.Path.{sym, ◌∙◌}
use borrow.Author.Rules.{rules}
use Rattle.pages.proofs.decide.Goals as goal

pub returns-then-counts-gt64 : goal.returns-then-counts-gt64
returns-then-counts-gt64 c = c.refused.ensures ∙ too_many c.args.list.bytes.now c.args.list.table.now c.args.counts.now c.args.room c.if-counts-gt64.true

pub returns-then-not-adds_up : goal.returns-then-not-adds_up
returns-then-not-adds_up c = c.refused-then-not-adds_up.ensures ∙ bad-shape c.args.list.bytes.now c.args.list.table.now c.args.counts.now c.args.room c.if-counts-gt64.false (sym c.adds_up.ensures ∙ c.if-not-adds_up.true)

pub returns-then-room-counts : goal.returns-then-room-counts
returns-then-room-counts c = c.refused-then-room-counts.ensures ∙ no-space c.args.list.bytes.now c.args.list.table.now c.args.counts.now c.args.room c.if-counts-gt64.false (sym c.adds_up.ensures ∙ c.if-not-adds_up.false) c.if-room-counts.true

pub judge-requires : goal.judge-requires
judge-requires c = sym c.adds_up.ensures ∙ c.if-not-adds_up.false

pub returns : goal.returns
returns c = c.judge.ensures ∙ by-pieces c.args.list.bytes.now c.args.list.table.now c.args.counts.now c.args.room c.if-counts-gt64.false (sym c.adds_up.ensures ∙ c.if-not-adds_up.false) c.if-room-counts.false
