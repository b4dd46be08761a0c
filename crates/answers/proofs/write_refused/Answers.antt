use mathlib.Core.Path.{sym}
use Rattle.answers.proofs.Digits.{refused-is}
use borrow.Author.Rules.{rules}
use Rattle.answers.proofs.write_refused.Goals as goal

pub returns : goal.returns
returns c =
    let e = sym (refused-is c.args.e c.number.ensures) in
    record { value = rw e at c.write_number.ensures.value; out_after = rw e at c.write_number.ensures.out_after }
