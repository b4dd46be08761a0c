use Rattle.chars.specs.Classes.{is_whitespace}
use Rattle.chunks.specs.Characters.{codes}
use Rattle.chunks.proofs.Lasts.{last_none, last-low, last-pair}
use native.Mathlib.Omega.{arith}
use mathlib.Core.Path.{sym, ap, ◌∙◌}
use borrow.Author.Rules.{rules}
use Rattle.chunks.proofs.last_white.Goals as goal

pub returns-then-n-eq0 : goal.returns-then-n-eq0
returns-then-n-eq0 c = last_none c.args.white c.args.t.now (codes c.args.t.now) c.requires c.if-n-eq0.true

pub returns-then-b-lt128 : goal.returns-then-b-lt128
returns-then-b-lt128 c =
    c.is_whitespace.ensures
    ∙ ap is_whitespace c.wide.ensures
    ∙ last-low c.args.white c.args.t.now (codes c.args.t.now) c.requires (omega arith) c.if-b-lt128.true

pub returns-then-is_lead : goal.returns-then-is_lead
returns-then-is_lead c =
    let t = c.args.t.now in
    let a = c.wide-then-is_lead.ensures in
    let b = c.wide-then-is_lead-2.ensures in
    c.is_whitespace-then-is_lead.ensures
    ∙ ap is_whitespace (rw (a, b))
    ∙ last-pair c.args.white t (codes t) c.requires c.if-n-ge2.true c.if-b-lt128.false (sym c.is_lead.ensures ∙ c.if-is_lead.true)
