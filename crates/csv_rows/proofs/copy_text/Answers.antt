use mathlib.Core.Path.{ap}
use borrow.Author.Tests.{le-leb, lt-leb}
use Rattle.chars.specs.Pick.{pick}
use Rattle.std.specs.Prelude.{Some}
use Rattle.csv_rows.specs.Texts.{copied, copied_into}
use borrow.Author.Rules.{rules}
use Rattle.csv_rows.proofs.copy_text.Goals as goal

pub returns-then-raw-out : goal.returns-then-raw-out
unfolding copied copied_into pick
returns-then-raw-out c =
    let t = le-leb _ _ c.if-raw-out.true in
    record { value = rw t (ap Some c.copy_in.ensures.value); out_after = rw t c.copy_in.ensures.out_after }

pub returns : goal.returns
unfolding copied copied_into pick
returns c = let t = lt-leb _ _ c.if-raw-out.false in record { value = rw t; out_after = rw t }
