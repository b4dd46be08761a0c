-- A Datetime of the calendar without a time is derived from its text, and so is read back from it. Assumes nothing.
use Prim.Native.Nat.{ℕ, suc, ◌<◌}
use native.Mathlib.Omega.{arith}
use mathlib.Core.Path.{◌≡◌, subst}
use mathlib.Core.List.{List, append-nil}
use lib.IntN.{ℤ, pos, negsuc, nat_abs}
use Rattle.dates.specs.declared.Day.{Day}
use Rattle.dates.specs.declared.Month.{Month}
use Rattle.std.specs.Prelude.{Option, Some, None}
use Rattle.dates.specs.declared.Datetime.{Datetime}
use Rattle.dates.specs.Domain.{PartsIn, EndIn}
use Rattle.dates.specs.Value.{from_datetime}
use Rattle.dates.proofs.Whole.{three-parts}
use Rattle.strict.specs.Grammar.{Year, dddd, -dddd, field, no_time, no_day, -dd, InMonth, InYear, no_month, -mm, Point, point, alone, no_mark, Text, text}
use Rattle.strict.specs.Matcher.{strict}
use Rattle.strict.specs.Canonical.{year_text, part_text, day_text, month_text, canonical}
use Rattle.strict.proofs.Exact.{exact}

year-derived : (y : ℤ) → nat_abs y < 10000 → Year (year_text y) y
unfolding year_text
year-derived (pos n) h = dddd n h
year-derived (negsuc n) h = -dddd (suc n) h

parts-derived : (y : ℤ) (m : Option Month) (d : Option Day) → PartsIn y m d → InYear y (month_text m d) m d None
unfolding month_text day_text part_text
parts-derived y None None h = no_month
parts-derived y None (Some d) h = absurd h
parts-derived y (Some m) None h = -mm (field m.0 (omega arith)) no_day
parts-derived y (Some m) (Some d) h =
    -mm (field m.0 (omega (arith, h.0))) (subst (λ (t : List ℕ). InMonth y m.0 t (Some d) None) (append-nil (part_text d.0)) (-dd (field d.0 (omega (arith, h.1))) no_time))

pub derived : (d : Datetime) → EndIn d → Point (canonical d) d
unfolding canonical
derived d p =
    subst (λ (a : Datetime). Point (canonical d) a) (three-parts d p)
    (point (year-derived d.year p.year_in) (parts-derived d.year d.month d.day p.parts_in))

-- it is read back
pub read_back : (d : Datetime) → EndIn d → strict (canonical d) ≡ Some (from_datetime d)
read_back d p =
    (exact (canonical d) (from_datetime d)).1
    (subst (λ (s : List ℕ). Text s (from_datetime d)) (append-nil (canonical d)) (text (alone (derived d p)) no_mark))
