-- Times: which are made, and how many seconds they are behind midnight in UTC.
use Rattle.std.specs.Prelude.{ℕ, ◌+◌, ◌*◌, Bool, true, false, ◌&&◌, leb, ℤ, pos, neg_ℤ, ◌-ℤ◌, Option, Some, None}
use Rattle.chars.specs.Pick.{pick}
use Rattle.dates.specs.declared.TimeOffset.{TimeOffset}
use Rattle.dates.specs.declared.TimeOffset.TheVariants.{Utc, Offset}
use Rattle.dates.specs.declared.Time.{Time}

-- the Time of four parts
abbrev pub time : ℕ → ℕ → ℕ → Option TimeOffset → Time
time h m s o = record { hour = h; minute = m; second = s; offset = o }

-- an hour up to 23, a minute and a second up to 59
unfoldable pub in_range : ℕ → ℕ → ℕ → Bool
in_range h m s = leb h 23 && leb m 59 && leb s 59

-- the time of an hour, a minute and a second: absent exactly if one of them is out of range; the offset is not checked
unfoldable pub time_of : ℕ → ℕ → ℕ → Option TimeOffset → Option Time
time_of h m s o = pick (in_range h m s) (Some (time h m s o)) None

-- hours, minutes and seconds as seconds
unfoldable pub seconds : ℕ → ℕ → ℕ → ℕ
seconds h m s = h * 3600 + m * 60 + s

-- a number, or what it is below zero
unfoldable pub ahead_or_behind : Bool → ℕ → ℤ
ahead_or_behind true n = pos n
ahead_or_behind false n = neg_ℤ (pos n)

-- the seconds that an offset is ahead of UTC; negative if it is behind
unfoldable pub offset_seconds : TimeOffset → ℤ
offset_seconds Utc = pos 0
offset_seconds (Offset positive h m) = ahead_or_behind positive (seconds h m 0)

-- the same of an offset that may be absent, which is ahead by nothing
unfoldable pub ahead_of : Option TimeOffset → ℤ
ahead_of None = pos 0
ahead_of (Some o) = offset_seconds o

-- the seconds of a time in UTC: those of its clock less those that its offset is ahead
unfoldable pub utc_seconds : Time → ℤ
utc_seconds t = pos (seconds t.hour t.minute t.second) -ℤ ahead_of t.offset
