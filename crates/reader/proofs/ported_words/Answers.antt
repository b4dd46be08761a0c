use mathlib.Core.Path.{sym, ap, ◌∙◌}
use native.Mathlib.Omega.{arith}
use lib.Dec.{eqb}
use lib.ListN.{length}
use borrow.Author.Tests.{eqb-true}
use Rattle.chars.proofs.Cases.{and-true}
use Rattle.codes.specs.Words.{words_or}
use Rattle.codes.specs.Lists.{one_normal}
use Rattle.reader.proofs.Said.{normal-ported, none-ported}
use borrow.Author.Rules.{rules}
use Rattle.reader.proofs.ported_words.Goals as goal

pub bounds-list-2 : goal.bounds-list-2
unfolding one_normal
bounds-list-2 c =
    let t = c.args.list.table.now in
    let e = eqb-true (length t) 4 (and-true (eqb (length t) 4) _ (sym c.is_one_normal.ensures ∙ c.if-is_one_normal.true)).0 in
    omega arith

pub returns-then-is_one_normal : goal.returns-then-is_one_normal
returns-then-is_one_normal c =
    c.ported_from.ensures ∙ ap words_or (normal-ported _ _ (sym c.is_one_normal.ensures ∙ c.if-is_one_normal.true))

pub returns : goal.returns
returns c =
    c.no_words.ensures ∙ ap words_or (none-ported _ _ (sym c.is_one_normal.ensures ∙ c.if-is_one_normal.false))
