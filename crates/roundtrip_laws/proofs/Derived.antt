-- The written text of a Date of the domain is a text of the strict grammar, and says that Date.
-- Assumes nothing.
use mathlib.Core.Path.{◌≡◌, refl, sym, ap, ◌∙◌, subst}
use mathlib.Core.Bool.{Bool, true, false}
use mathlib.Core.List.{List, [], ◌∷◌, ◌++◌, append_assoc}
use Prim.Native.Nat.{ℕ, ◌+◌}
use native.Mathlib.Omega.{arith}
use lib.IntN.{ℤ, pos, negsuc}
use Rattle.dates.specs.declared.Day.{Day}
use Rattle.dates.specs.declared.Month.{Month}
use Rattle.std.specs.Prelude.{Option, Some, None}
use Rattle.dates.specs.declared.Datetime.{Datetime}
use Rattle.dates.specs.declared.DateValue.{DateValue}
use Rattle.dates.specs.declared.DateValue.TheVariants.{At, After, Before, Between}
use Rattle.dates.specs.declared.Date.{Date}
use Rattle.dates.specs.Domain.{EndIn}
use Rattle.numbers.proofs.Reading.{bytes}
use Rattle.points.proofs.Back.{two, year_bytes, part_bytes, day_bytes, tail_bytes}
use Rattle.strict.specs.Canonical.{year_text, part_text, day_text, month_text, canonical}
use Rattle.strict.specs.Grammar.{Point, Value, alone, between, after, before, Mark, no_mark, uncertain, approximate, both, text}
use Rattle.strict.specs.Matcher.{strict}
use Rattle.strict.proofs.Written.{derived}
use Rattle.strict.proofs.Exact.{exact}
use Rattle.writer.specs.Texts.{datetime_text, value_text, date_text}
use Rattle.puts.specs.Marks.{mark_text}
use Rattle.roundtrip_laws.specs.Domain.{InDomain}
use Rattle.roundtrip_laws.proofs.Texts.{text_is}

-- the writer's text of an end is the grammar's
year-same : (y : ℤ) → year_bytes y ≡ year_text y
unfolding year_text
year-same (pos n) = refl
year-same (negsuc n) = refl

plus_one : (n : ℕ) → n + 1 ≡ 1 + n
plus_one n = omega arith

part_same : (n : ℕ) → part_bytes n ≡ part_text n
unfolding part_text
part_same n = ap (λ (k : ℕ). 45 ∷ bytes (two k)) (plus_one n)

day-same : (d : Option Day) → day_bytes d ≡ day_text d
unfolding day_text
day-same None = refl
day-same (Some d) = part_same d.0

tail-same : (m : Option Month) (d : Option Day) → tail_bytes m d ≡ month_text m d
unfolding month_text
tail-same None d = refl
tail-same (Some m) d = ap (λ (u : List ℕ). u ++ day_bytes d) (part_same m.0) ∙ ap (λ (u : List ℕ). part_text m.0 ++ u) (day-same d)

pub canonical-is : (d : Datetime) → EndIn d → datetime_text d ≡ canonical d
unfolding canonical
canonical-is d w = text_is d w ∙ rw (year-same d.year, tail-same d.month d.day)

pub end-derived : (d : Datetime) → EndIn d → Point (datetime_text d) d
end-derived d w = subst (λ (s : List ℕ). Point s d) (sym (canonical-is d w)) (derived d w)

value-derived : (v : DateValue) → InDomain v → Value Point (value_text v) v
unfolding value_text
value-derived (At a) w = alone (end-derived a w)
value-derived (After a) w = after (end-derived a w)
value-derived (Before a) w = before (end-derived a w)
value-derived (Between a b) w =
    subst (λ (s : List ℕ). Value Point s (Between a b)) (sym (append_assoc (datetime_text a) (47 ∷ []) (datetime_text b)))
    (between (end-derived a w.0) (end-derived b w.1))

pub mark-derived : (u a : Bool) → Mark (mark_text u a) u a
unfolding mark_text
mark-derived true true = both
mark-derived false true = approximate
mark-derived true false = uncertain
mark-derived false false = no_mark

-- the strict matcher gives the Date
pub matched : (d : Date) → InDomain d.value → strict (date_text d) ≡ Some d
unfolding date_text
matched d w = (exact (date_text d) d).1 (text (value-derived d.value w) (mark-derived d.uncertain d.approximate))
