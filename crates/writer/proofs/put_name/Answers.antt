use Rattle.writer.specs.Fields.{prefix}
use Rattle.puts.proofs.Puts.{both, first_fits, room}
use borrow.Author.Rules.{rules}
use Rattle.writer.proofs.put_name.Goals as goal

pub put_prefix-k-requires : goal.put_prefix-k-requires
put_prefix-k-requires c =
    first_fits (prefix c.args.end) c.args.name.now c.args.out.now c.args.at c.requires

pub returns : goal.returns
returns c =
    let p = c.put_prefix-k.ensures in
    both p (c.put_bytes.ensures.put (room p c.args.name.now c.requires))
