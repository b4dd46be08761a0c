use mathlib.Core.Path.{sym, ap, ◌∙◌}
use native.Mathlib.Omega.{arith}
use lib.ListN.{length}
use lib.Seq.{take-length}
use borrow.Author.Tests.{le-leb, lt-leb}
use Rattle.codes.specs.Texts.{written}
use Rattle.reader.proofs.Said.{spaced-usual, long-usual, joined-usual, none-usual, nothing_written}
use borrow.Author.Rules.{rules}
use Rattle.reader.proofs.usual_length.Goals as goal

pub returns-then-list-le4096 : goal.returns-then-list-le4096
returns-then-list-le4096 c = (
  ap written c.unspaced.ensures.0
      ∙ spaced-usual _ _ (sym c.is_one_normal.ensures ∙ c.if-is_one_normal.true) (le-leb _ _ c.if-list-le4096.true),
  c.unspaced.ensures.1,
)

pub returns-then-is_one_normal : goal.returns-then-is_one_normal
returns-then-is_one_normal c =
    let l = c.args.list.bytes.now in (
      nothing_written l
          ∙ long-usual _ _ (sym c.is_one_normal.ensures ∙ c.if-is_one_normal.true) (lt-leb (length l) 4096 (omega (arith, c.if-list-le4096.false))),
      omega arith,
    )

pub returns-then-is_joined : goal.returns-then-is_joined
returns-then-is_joined c = (
  ap written (take-length c.args.list.bytes.now)
      ∙ joined-usual _ _ (sym c.is_one_normal.ensures ∙ c.if-is_one_normal.false) (sym c.is_joined.ensures ∙ c.if-is_joined.true),
  omega arith,
)

pub returns : goal.returns
returns c = (
  nothing_written c.args.list.bytes.now
      ∙ none-usual _ _ (sym c.is_one_normal.ensures ∙ c.if-is_one_normal.false) (sym c.is_joined.ensures ∙ c.if-is_joined.false),
  omega arith,
)
