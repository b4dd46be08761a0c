use mathlib.Core.Path.{sym, ◌∙◌}
use native.Mathlib.Omega.{arith}
use borrow.Author.Rules.{rules}
use Rattle.chunks.proofs.put_plain.Goals as goal

pub put_whole-requires : goal.put_whole-requires
put_whole-requires c =
    let s = c.requires in
    record { t_in_bounds = (omega (arith, s.0), s.1); t_value = sym c.all_unbroken.ensures ∙ c.if-all_unbroken.true }
