use native.Mathlib.Omega.{arith}
use Rattle.writer.proofs.Bounds.{part-most}
use Rattle.writer.specs.Texts.{part_text}
use Rattle.puts.proofs.Counts.{length-decimal}
use mathlib.Core.Path.{sym, ◌∙◌}
use borrow.Author.Rules.{rules}
use Rattle.writer.proofs.part_length.Goals as goal

pub returns : goal.returns
unfolding part_text
returns c =
    let e = c.width.ensures.value ∙ sym (length-decimal 2 c.args.n) in
    let m = part-most c.args.n (omega arith) in
    (e, omega (arith, e, m))
