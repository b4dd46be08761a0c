use Rattle.csv_rows.proofs.Laws.{front}
use Rattle.csv_rows.specs.Scans.{text_step}
use Rattle.chars.specs.Pick.{pick}
use borrow.Author.Tests.{eq-eqb, ne_eqb}
use borrow.Author.Rules.{rules}
use Rattle.csv_rows.proofs.text_step.Goals as goal

pub returns-then-is_at : goal.returns-then-is_at
unfolding text_step pick
returns-then-is_at c =
    rw (front c.args.raw.now c.args.at c.requires, eq-eqb _ _ c.if-raw-at-eq34.true, ← c.is_at.ensures, c.if-is_at.true)

pub returns-else-is_at : goal.returns-else-is_at
unfolding text_step pick
returns-else-is_at c =
    rw (front c.args.raw.now c.args.at c.requires, eq-eqb _ _ c.if-raw-at-eq34.true, ← c.is_at.ensures, c.if-is_at.false)

pub returns-else-raw-at-eq34 : goal.returns-else-raw-at-eq34
unfolding text_step pick
returns-else-raw-at-eq34 c =
    rw (front c.args.raw.now c.args.at c.requires, ne_eqb _ _ c.if-raw-at-eq34.false)
