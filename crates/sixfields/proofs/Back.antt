-- What joins the reader of six fields with the reader of three and with the writer of fields.
-- Assumes nothing.
use mathlib.Core.Path.{◌≡◌, refl, ◌∙◌}
use mathlib.Core.Bool.{Bool, true, false}
use Prim.Native.Nat.{ℕ}
use native.Mathlib.Omega.{arith}
use Rattle.chars.specs.Pick.{pick}
use Rattle.dates.specs.declared.Datetime.{Datetime}
use Rattle.dates.specs.declared.DateValue.{DateValue}
use Rattle.dates.specs.declared.DateValue.TheVariants.{At, After, Before, Between}
use Rattle.dates.specs.Value.{date, from_datetime}
use Rattle.dates.specs.declared.Date.{Date}
use Rattle.refusals.specs.declared.Refusal.{Refusal}
use Rattle.std.specs.Prelude.{Result, Ok}
use Rattle.chunks.specs.Lent.{Three}
use Rattle.reading_laws.specs.Fields.{three_fields}
use Rattle.reading_laws.specs.Single.{Single, one, none}
use Rattle.reading_laws.proofs.Single.{three-single}
use Rattle.writer.specs.Fields.{value_lines, fields_text}
use Rattle.roundtrip_laws.specs.Domain.{InDomain}
use Rattle.roundtrip_laws.proofs.Theorems as three
use Rattle.sixfields.specs.Six.{single, unmarked, on_three, between, on_end_year, with_end, six_fields}
use Rattle.sixfields.specs.Back.{Places, is_closed, value_lines_of, read_back}
use Rattle.sixfields.proofs.Filled.{filled}

-- a single date goes through as it is
same : {r : Result Date Refusal} → Single r → on_three r (λ a. unmarked (At a)) ≡ r
unfolding on_three single unmarked
same (one a) = refl
same none = refl

-- Without an end year list six fields are three, whatever is passed for the end
pub without_end : (start end : Three) → six_fields start false end ≡ three_fields start
unfolding six_fields with_end pick
without_end start end = same (three-single start)

-- an end that was read makes a range
ends : (a b : Datetime) (end : Three) → three_fields end ≡ Ok (from_datetime b) → with_end a true end ≡ Ok (date (Between a b) false false)
unfolding with_end pick on_end_year between on_three single unmarked
ends a b end e = rw (filled end e, e)

-- The lines that are written for a Date of the domain have these values,
pub lines_are : (v : DateValue) (uncertain approximate : Bool) → InDomain v → fields_text (date v uncertain approximate) ≡ value_lines_of v
unfolding fields_text value_lines
lines_are (At a) u k w = three.lines_are false a w
lines_are (After a) u k w = three.lines_are false a w
lines_are (Before a) u k w = three.lines_are false a w
lines_are (Between a b) u k w = rw (three.lines_are false a w.0, three.lines_are true b w.1)

-- and the values, read as six fields from any places of a file, give the Date, if it is a single date or a range with both ends and has no mark
pub fields_back : (v : DateValue) → InDomain v → is_closed v ≡ true → (p q : Places) → read_back v p q ≡ Ok (date v false false)
unfolding six_fields on_three single
fields_back (At a) w c p q =
    without_end _ _
    ∙ three.fields_back p.year.0 p.year.1 p.month.0 p.month.1 p.day.0 p.day.1 a w
fields_back (After a) w c p q = absurd (let z : ◌≡◌ {A = ℕ} 0 1 = cc in omega arith)
fields_back (Before a) w c p q = absurd (let z : ◌≡◌ {A = ℕ} 0 1 = cc in omega arith)
fields_back (Between a b) w c p q =
    rw (three.fields_back p.year.0 p.year.1 p.month.0 p.month.1 p.day.0 p.day.1 a w.0)
    (ends a b _ (three.fields_back q.year.0 q.year.1 q.month.0 q.month.1 q.day.0 q.day.1 b w.1))
