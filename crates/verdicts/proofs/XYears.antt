-- Of which digits the years are that the ported reader reads in a cell with an X.
-- Assumes nothing.
use Prim.Native.Nat.{ℕ}
use mathlib.Core.Path.{◌≡◌, refl, sym, subst, ◌∙◌}
use mathlib.Core.Bool.{true}
use mathlib.Core.List.{List}
use native.Mathlib.Omega.{arith}
use Rattle.chars.specs.Pick.{pick}
use Rattle.refusals.specs.declared.FileSpan.{FileSpan}
use Rattle.dates.specs.declared.Datetime.{Datetime}
use Rattle.refusals.specs.declared.TextRefusal.{TextRefusal}
use Rattle.std.specs.Prelude.{Result, Ok, Err}
use Rattle.dates.specs.declared.Date.{Date}
use Rattle.dates.specs.declared.DateValue.{DateValue}
use Rattle.dates.specs.declared.DateValue.TheVariants.{Between}
use Rattle.chunks.specs.Chunks.{chunks_of, span_of}
use Rattle.chunks.specs.Check.{checked}
use Rattle.xranges.specs.Range.{range_dates}
use Rattle.xranges.proofs.Written.{written-range}
use Rattle.datefield.specs.Value as field
use Rattle.reading_laws.specs.Field.{parsed}
use Rattle.verdicts.specs.Dates.{cell_table}
use Rattle.verdicts.specs.Windows.{stands, has_x}
use Rattle.verdicts.specs.Century.{text_read, IsXRange}
use Rattle.verdicts.proofs.Windowed.{x-clean, of-clean}
use Rattle.verdicts.proofs.Years.{of-marked}

-- what is read of an X range
by-range : (span : FileSpan) (s : List ℕ) (r : Result (Datetime × Datetime) TextRefusal) {v : DateValue} → range_dates s ≡ r → field.x_range span r ≡ Ok v → IsXRange s v
unfolding field.x_range
by-range span s (Ok (a, b)) {v} e f = let z : Between a b ≡ v = cc in subst (IsXRange s) z (written-range s e)
by-range span s (Err g) e f = absurd (let z : ◌≡◌ {A = ℕ} 0 1 = cc in omega arith)

-- what is read of a text with an X
by-x : (span : FileSpan) (s : List ℕ) {v : DateValue} → stands 0x58 s ≡ true → field.value span s ≡ Ok v → IsXRange s v
unfolding field.value stands pick
by-x span s t e = by-range span s (range_dates s) refl (rw t at e)

-- A cell that the ported reader accepts and that has an X, large or small, is a range. The text that the reader takes apart begins, behind
-- white space, with two digits and XX, three and X, or four. The ends are the years with 0 and with 9 in place of each X; or, of the four
-- digits' year, January and December where XX stands for the month, or the first and the 31st of the month whose two digits stand there.
pub x-years : (s : List ℕ) {d : Date} → parsed s (cell_table s) ≡ Ok d → has_x s ≡ true → IsXRange (text_read s) d.value
unfolding parsed field.parse_text field.trimmed_date text_read
x-years s e x =
    let k = of-clean (checked s (cell_table s)) e in
    by-x (span_of (chunks_of (cell_table s))) (text_read s) (sym (x-clean s k.0) ∙ x) (of-marked _ _ _ k.1)
