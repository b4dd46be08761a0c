-- Days and instants as plain structs.
use Rattle.std.specs.Prelude.{pos, Result, Ok, Err, ℤ}
use Rattle.refusals.specs.Refusal.{number}
use Rattle.days.specs.declared.Period.{Period}
use Rattle.refusals.specs.declared.Refusal.{Refusal}
use Rattle.knobstream.specs.declared.moments.PlainDays.{PlainDays}
use Rattle.knobstream.specs.declared.moments.PlainInstant.{PlainInstant}

-- the first and the last day with refusal 0, or zeros with the refusal's number
abbrev pub plain_days : Result Period Refusal → PlainDays
plain_days (Ok p) = record { first = p.first; last = p.last; refusal = 0 }
plain_days (Err e) = record { first = pos 0; last = pos 0; refusal = number e.kind }

-- the seconds with refusal 0, or 0 with the refusal's number
abbrev pub plain_instant : Result ℤ Refusal → PlainInstant
plain_instant (Ok n) = record { seconds = n; refusal = 0 }
plain_instant (Err e) = record { seconds = pos 0; refusal = number e.kind }
