use mathlib.Core.Path.{refl}
use Rattle.chunks.specs.Lent.{lent_of}
use Rattle.reader.proofs.Flags.{same-fields}
use borrow.Author.Rules.{rules}
use Rattle.knobstream.proofs.fields_of.Goals as goal

pub returns : goal.returns
returns c =
    record {
      year_list = refl;
      lists = rw (c.is_set.ensures, c.is_set-2.ensures) at (same-fields (lent_of c.args.year) c.args.month c.args.day c.is_set.result c.is_set-2.result c.then_some.ensures c.then_some-2.ensures);
    }
