use Rattle.numbers.proofs.Trims.{trim-inside}
use lib.Seq.{length-take-le}
use native.Mathlib.Omega.{arith}
use mathlib.Core.Path.{sym}
use Rattle.datefield.specs.Text.{trimmed}
use Rattle.datefield.specs.Value.{parse_text}
use borrow.Author.Rules.{rules}
use Rattle.datefield.proofs.parse_text.Goals as goal

pub slice_bounds-read_trimmed-end : goal.slice_bounds-read_trimmed-end
slice_bounds-read_trimmed-end c = sym (length-take-le _ _ (omega (arith, trim-inside c.args.s.now, c.trim_end-end.ensures)))

pub returns : goal.returns
unfolding parse_text trimmed
returns c =
    simp (← c.trim_end-end.ensures, ← c.read_trimmed.ensures)
