-- The text of a date by the writer of level one: seasons, and a Y before a year of more than four digits.
use Rattle.std.specs.Prelude.{ℕ, ◌≡◌, Bool, false, List, [], ◌++◌, ltb, ℤ, nat_abs, Option, Some}
use Rattle.chars.specs.Pick.{pick}
use Rattle.chars.specs.Ascii.{ascii}
use Rattle.dates.specs.declared.Month.{Month}
use Rattle.dates.specs.declared.Day.{Day}
use Rattle.dates.specs.declared.Datetime.{Datetime}
use Rattle.dates.specs.declared.DateValue.{DateValue}
use Rattle.dates.specs.declared.DateValue.TheVariants.{At, After, Before, Between}
use Rattle.dates.specs.declared.Date.{Date}
use Rattle.dates.specs.Ends.{any_end, joined}
use Rattle.dates.specs.Value.{has_season, season_number}
use Rattle.writer.specs.Texts.{year_text, parts_of, parts_text, hyphen_part, end_panics}
use Rattle.puts.specs.Marks.{mark_text}

-- Y before a year of five digits or more
unfoldable pub long_sign : ℤ → List ℕ
long_sign y = pick (ltb (nat_abs y) 10000) [] (ascii "Y")

-- behind the year: the season and nothing else, or else the month and the day
unfoldable pub behind_text : Datetime → List ℕ
behind_text d = pick (has_season d) (hyphen_part (season_number d.season)) (parts_text (parts_of d))

-- one end; its time is left out
unfoldable pub level_end : Datetime → List ℕ
level_end d = long_sign d.year ++ year_text d.year ++ behind_text d

-- a point, or a range whose open side is two dots
unfoldable pub level_value : DateValue → List ℕ
level_value v = joined level_end v

-- a date: the point or range, then its mark
unfoldable pub level_text : Date → List ℕ
level_text d = level_value d.value ++ mark_text d.uncertain d.approximate

-- whether an end has no text: beside a season no month and no day is looked at
unfoldable pub level_end_panics : Datetime → Bool
level_end_panics d = pick (has_season d) false (end_panics d)

-- whether one of the ends has none
unfoldable pub level_value_panics : DateValue → Bool
level_value_panics v = any_end level_end_panics v

-- whether the date has none
unfoldable pub level_panics : Date → Bool
level_panics d = level_value_panics d.value

-- a month 255, or a day 255 beside a month
pub data Unwritten : Option Month → Option Day → Type 0 where
  month_255 : {m : Month} {d : Option Day} → m.0 ≡ 255 → Unwritten (Some m) d
  day_255 : {m : Month} {d : Day} → d.0 ≡ 255 → Unwritten (Some m) (Some d)

-- an end that has no text: one without a season that has such a part
abbrev pub NoText : Datetime → Type 0
NoText d = (has_season d ≡ false) × Unwritten d.month d.day

-- ends of the same year and season, and without a season of the same month and day
pub record Alike (d e : Datetime) : Type 0 where
  -- the same year
  pub years : d.year ≡ e.year
  -- the same season, or none
  pub seasons : d.season ≡ e.season
  -- without a season the same month and day
  pub parts : has_season d ≡ false → (d.month ≡ e.month) × (d.day ≡ e.day)

-- points, or ranges of one kind, with such ends
pub data AlikeValues : DateValue → DateValue → Type 0 where
  points : {a b : Datetime} → Alike a b → AlikeValues (At a) (At b)
  afters : {a b : Datetime} → Alike a b → AlikeValues (After a) (After b)
  befores : {a b : Datetime} → Alike a b → AlikeValues (Before a) (Before b)
  betweens : {a b c d : Datetime} → Alike a b → Alike c d → AlikeValues (Between a c) (Between b d)
