use mathlib.Core.Path.{sym, ap, ◌∙◌}
use borrow.Author.Tests.{lt-ltb, le-ltb}
use Rattle.chars.specs.Pick.{pick}
use Rattle.codes.specs.declared.Words.{Words}
use Rattle.codes.specs.Words.{words_or}
use Rattle.codes.specs.Points.{on_some}
use Rattle.codes.specs.Ported.{ported, moved_words}
use Rattle.codes.proofs.Laws.{told, untold}
use Rattle.codes.proofs.Places.{moved-is, ported-movable}
use borrow.Author.Rules.{rules}
use Rattle.reader.proofs.ported_from.Goals as goal

pub returns-then-w : goal.returns-then-w
unfolding on_some pick
returns-then-w c =
    let t = c.args.bytes.now in
    let e = c.ported-text.ensures in
    let n = untold (ported t) (ap (λ (v : Words). v.last) (sym e) ∙ c.if-w.true) in
    rw (lt-ltb _ _ c.if-start-lt9223372036854775808.true, n) (e ∙ ap words_or n)

pub returns-then-start-lt9223372036854775808 : goal.returns-then-start-lt9223372036854775808
unfolding on_some pick
returns-then-start-lt9223372036854775808 c =
    let t = c.args.bytes.now in
    let e = c.ported-text.ensures in
    let n = told (ported t) (λ z. c.if-w.false (ap (λ (v : Words). v.last) e ∙ z)) in
    rw (lt-ltb _ _ c.if-start-lt9223372036854775808.true, n.1)
    (c.moved.ensures
    ∙ ap (moved_words _) (e ∙ ap words_or n.1)
    ∙ moved-is _ c.if-start-lt9223372036854775808.true n.0 (ported-movable t n.1))

pub returns : goal.returns
unfolding pick
returns c = rw (le-ltb _ _ c.if-start-lt9223372036854775808.false) c.no_words.ensures
