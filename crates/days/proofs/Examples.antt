-- What some Datetimes cover, and some that are refused: one theorem over one list. Assumes nothing.
use mathlib.Core.Path.{◌≡◌, refl, ◌∙◌}
use mathlib.Core.List.{List, [], ◌∷◌, map}
use Prim.Native.Nat.{ℕ}
use lib.IntN.{ℤ, pos, negsuc}
use Rattle.chars.specs.Pick.{pick}
use Rattle.refusals.specs.declared.Kind.TheVariants.{NotACalendarDate, HasSeason}
use Rattle.refusals.specs.Refusal.{file_span, refusal, number}
use Rattle.dates.specs.declared.Season.TheVariants.{Spring, Winter}
use Rattle.days.specs.declared.Period.{Period}
use Rattle.refusals.specs.declared.Refusal.{Refusal}
use Rattle.std.specs.Prelude.{Some, None, Result, Ok, Err}
use Rattle.dates.specs.declared.Datetime.{Datetime}
use Rattle.dates.specs.Calendar.{multiple, leap_year, february, month_lengths, month_length}
use Rattle.dates.specs.Value.{month, day, datetime, season_of}
use Rattle.dates.specs.Time.{time}
use Rattle.days.specs.Days.{total, year_length}
use Rattle.days.specs.Covered.{year_in, period, not_adate, seasoned, covered}
use Rattle.days.specs.Counts.{counted, asked_month, asked_year, asked, numbered, period_from}
use Rattle.days.specs.Ways.{by_formula, days_by}
use Rattle.days.proofs.Engines.{formula-covers}

-- a Datetime, and what it covers
pub record Example : Type 0 where
  pub of : Datetime
  pub says : Result Period Refusal

abbrev pub year : ℤ → Datetime
year y = datetime y None None None

-- a month, counted from zero
abbrev pub in-month : ℤ → ℕ → Datetime
in-month y m = datetime y (month m) None None

-- a day, counted from zero likewise
abbrev pub on-day : ℤ → ℕ → ℕ → Datetime
on-day y m d = datetime y (month m) (day d) None

abbrev pub refused : Result Period Refusal
refused = Err (refusal NotACalendarDate (file_span 0 0))

-- a season, before all else
abbrev pub no-days : Result Period Refusal
no-days = Err (refusal HasSeason (file_span 0 0))

abbrev pub examples : List Example
examples =
    record { of = on-day (pos 0) 0 0; says = Ok (period (pos 0) (pos 0)) }
    ∷ record { of = on-day (pos 2000) 0 0; says = Ok (period (pos 730485) (pos 730485)) }
    ∷ record { of = on-day (negsuc 0) 11 30; says = Ok (period (negsuc 0) (negsuc 0)) }
    ∷ record { of = on-day (negsuc 9998) 0 0; says = Ok (period (negsuc 3652058) (negsuc 3652058)) }
    ∷ record { of = on-day (pos 9999) 11 30; says = Ok (period (pos 3652424) (pos 3652424)) }
    ∷ record { of = year (pos 0); says = Ok (period (pos 0) (pos 365)) }
    ∷ record { of = year (pos 1900); says = Ok (period (pos 693961) (pos 694325)) }
    ∷ record { of = year (pos 2000); says = Ok (period (pos 730485) (pos 730850)) }
    ∷ record { of = year (negsuc 0); says = Ok (period (negsuc 364) (negsuc 0)) }
    ∷ record { of = in-month (pos 1900) 1; says = Ok (period (pos 693992) (pos 694019)) }
    ∷ record { of = in-month (pos 2000) 1; says = Ok (period (pos 730516) (pos 730544)) }
    ∷ record { of = in-month (negsuc 3) 1; says = Ok (period (negsuc 1429) (negsuc 1401)) }
    ∷ record { of = datetime (pos 2000) (month 1) (day 28) (Some (time 23 59 59 None)); says = Ok (period (pos 730544) (pos 730544)) }
    ∷ record { of = year (pos 4); says = Ok (period (pos 1461) (pos 1826)) }
    ∷ record { of = year (pos 100); says = Ok (period (pos 36525) (pos 36889)) }
    ∷ record { of = year (pos 400); says = Ok (period (pos 146097) (pos 146462)) }
    ∷ record { of = year (pos 2004); says = Ok (period (pos 731946) (pos 732311)) }
    ∷ record { of = year (pos 2100); says = Ok (period (pos 767010) (pos 767374)) }
    ∷ record { of = year (negsuc 3); says = Ok (period (negsuc 1460) (negsuc 1095)) }
    ∷ record { of = year (negsuc 99); says = Ok (period (negsuc 36523) (negsuc 36159)) }
    ∷ record { of = year (negsuc 399); says = Ok (period (negsuc 146096) (negsuc 145731)) }
    ∷ record { of = year (pos 9999); says = Ok (period (pos 3652060) (pos 3652424)) }
    ∷ record { of = year (negsuc 9998); says = Ok (period (negsuc 3652058) (negsuc 3651694)) }
    ∷ record { of = in-month (pos 2023) 0; says = Ok (period (pos 738886) (pos 738916)) }
    ∷ record { of = in-month (pos 2023) 1; says = Ok (period (pos 738917) (pos 738944)) }
    ∷ record { of = in-month (pos 2023) 2; says = Ok (period (pos 738945) (pos 738975)) }
    ∷ record { of = in-month (pos 2023) 3; says = Ok (period (pos 738976) (pos 739005)) }
    ∷ record { of = in-month (pos 2023) 4; says = Ok (period (pos 739006) (pos 739036)) }
    ∷ record { of = in-month (pos 2023) 5; says = Ok (period (pos 739037) (pos 739066)) }
    ∷ record { of = in-month (pos 2023) 6; says = Ok (period (pos 739067) (pos 739097)) }
    ∷ record { of = in-month (pos 2023) 7; says = Ok (period (pos 739098) (pos 739128)) }
    ∷ record { of = in-month (pos 2023) 8; says = Ok (period (pos 739129) (pos 739158)) }
    ∷ record { of = in-month (pos 2023) 9; says = Ok (period (pos 739159) (pos 739189)) }
    ∷ record { of = in-month (pos 2023) 10; says = Ok (period (pos 739190) (pos 739219)) }
    ∷ record { of = in-month (pos 2023) 11; says = Ok (period (pos 739220) (pos 739250)) }
    ∷ record { of = in-month (pos 2024) 0; says = Ok (period (pos 739251) (pos 739281)) }
    ∷ record { of = in-month (pos 2024) 2; says = Ok (period (pos 739311) (pos 739341)) }
    ∷ record { of = in-month (pos 2024) 11; says = Ok (period (pos 739586) (pos 739616)) }
    ∷ record { of = in-month (pos 2100) 1; says = Ok (period (pos 767041) (pos 767068)) }
    ∷ record { of = in-month (negsuc 0) 0; says = Ok (period (negsuc 364) (negsuc 334)) }
    ∷ record { of = in-month (negsuc 399) 1; says = Ok (period (negsuc 146065) (negsuc 146037)) }
    ∷ record { of = in-month (negsuc 99) 1; says = Ok (period (negsuc 36492) (negsuc 36465)) }
    ∷ record { of = on-day (pos 0) 1 28; says = Ok (period (pos 59) (pos 59)) }
    ∷ record { of = on-day (pos 1) 0 0; says = Ok (period (pos 366) (pos 366)) }
    ∷ record { of = on-day (pos 1970) 0 0; says = Ok (period (pos 719528) (pos 719528)) }
    ∷ record { of = on-day (pos 2023) 3 29; says = Ok (period (pos 739005) (pos 739005)) }
    ∷ record { of = on-day (negsuc 0) 0 0; says = Ok (period (negsuc 364) (negsuc 364)) }
    ∷ record { of = on-day (negsuc 3) 1 28; says = Ok (period (negsuc 1401) (negsuc 1401)) }
    ∷ record { of = on-day (pos 2000) 11 30; says = Ok (period (pos 730850) (pos 730850)) }
    ∷ record { of = year (pos 10000); says = refused }
    ∷ record { of = year (negsuc 9999); says = refused }
    ∷ record { of = in-month (pos 2000) 12; says = refused }
    ∷ record { of = datetime (pos 2000) None (day 0) None; says = refused }
    ∷ record { of = on-day (pos 1900) 1 28; says = refused }
    ∷ record { of = on-day (pos 2023) 3 30; says = refused }
    ∷ record { of = on-day (pos 2023) 11 31; says = refused }
    ∷ record { of = on-day (pos 2000) 1 29; says = refused }
    ∷ record { of = on-day (pos 2100) 1 28; says = refused }
    ∷ record { of = on-day (negsuc 99) 1 28; says = refused }
    ∷ record { of = on-day (pos 2000) 12 0; says = refused }
    ∷ record { of = on-day (pos 2000) 0 255; says = refused }
    ∷ record { of = in-month (pos 2000) 255; says = refused }
    ∷ record { of = on-day (pos 10000) 0 0; says = refused }
    ∷ record { of = season_of (pos 2000) (Some Spring); says = no-days }
    ∷ record { of = record { year = pos 2000; month = month 255; day = None; time = None; season = Some Winter }; says = no-days }
    ∷ []

all-by-formula : (l : List Example) → map (λ (e : Example). covered e.of) l ≡ map (λ (e : Example). days_by by_formula e.of) l
all-by-formula [] = refl
all-by-formula (e ∷ l) = rw (formula-covers e.of, all-by-formula l)

pub all-examples : map (λ (e : Example). covered e.of) examples ≡ map (λ (e : Example). e.says) examples
unfolding days_by seasoned asked asked_year asked_month year_in counted year_length total numbered period_from not_adate multiple leap_year february month_lengths month_length pick
all-examples = all-by-formula examples ∙ refl

-- the refusal's number is 17, and it has no place
pub refused_as : (number NotACalendarDate ≡ 17) × (refusal NotACalendarDate (file_span 0 0) ≡ record { kind = NotACalendarDate; place = file_span 0 0 })
unfolding refusal pick
refused_as = (refl, refl)

-- that of a season is 24, and it has none either
pub seasoned-as : (number HasSeason ≡ 24) × (refusal HasSeason (file_span 0 0) ≡ record { kind = HasSeason; place = file_span 0 0 })
unfolding refusal pick
seasoned-as = (refl, refl)
