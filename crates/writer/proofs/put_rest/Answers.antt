use native.Mathlib.Omega.{arith}
use Rattle.writer.specs.Texts.{datetime_text}
use Rattle.puts.proofs.Puts.{lent}
use borrow.Author.Rules.{rules}
use Rattle.writer.proofs.put_rest.Goals as goal

pub returns : goal.returns
returns c =
    lent (datetime_text c.args.d) c.args.out.now c.put_datetime.new.out c.args.at c.put_datetime.result c.requires c.put_datetime.ensures
