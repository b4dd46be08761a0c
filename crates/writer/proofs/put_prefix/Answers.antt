use Rattle.writer.specs.Fields.{prefix}
use Rattle.puts.proofs.Puts.{fits-as, as-text, nothing}
use mathlib.Core.Path.{ap}
use borrow.Author.Rules.{rules}
use Rattle.writer.proofs.put_prefix.Goals as goal

pub returns-then-end : goal.returns-then-end
unfolding prefix
returns-then-end c =
    let e = ap prefix c.if-end.true in
    as-text e (c.put_bytes.ensures.put (fits-as c.args.out.now c.args.at e c.requires))

pub returns : goal.returns
unfolding prefix
returns c =
    as-text (ap prefix c.if-end.false) (nothing c.args.out.now c.args.at)
