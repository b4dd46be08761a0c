-- The time of a point, behind the T: hour, minute, second, offset. Each further part may be left out, an offset stands only behind
-- seconds, and what is left out is zero.
use Rattle.std.specs.Prelude.{ℕ, Bool, true, false, List, eqb, Option, Some, None, Result, Ok, Err}
use Prim.Native.Char.{code}
use Rattle.chars.specs.Pick.{pick}
use Rattle.scanner.specs.declared.Class.TheVariants.{Whitespace}
use Rattle.dates.specs.declared.TimeOffset.{TimeOffset}
use Rattle.refusals.specs.declared.TextRefusal.{TextRefusal}
use Rattle.scanner.specs.declared.Cursor.{Cursor}
use Rattle.scanner.specs.Scan.{eat_while, eat_at}
use Rattle.refusals.specs.Offset.{text_refusal}
use Rattle.refusals.specs.declared.Kind.TheVariants.{InvalidFormat}
use Rattle.dates.specs.declared.TimeOffset.TheVariants.{Utc, Offset}
use Rattle.dates.specs.declared.Time.{Time}
use Rattle.dates.specs.Time.{time}
use Rattle.points.specs.Step.{hour_at, sixty_at, colon_at, on_part, on_separator, or_end}

-- a time with no offset
abbrev pub local : ℕ → ℕ → ℕ → Time
local h m s = time h m s None

-- behind a sign: hours, and minutes unless the text ends; what stands behind the minutes is not read
unfoldable pub shift_at : List ℕ → ℕ → Bool → Result TimeOffset TextRefusal
shift_at s at positive =
    on_part Err (hour_at s at) λ h next.
    or_end s next (Ok (Offset positive h 0)) λ a.
    on_separator Err (colon_at s a) λ b.
    on_part Err (sixty_at s b) λ m _.
    Ok (Offset positive h m)

-- by the character there: Z, a sign, or one that is refused, at its own place
unfoldable pub offset_by : List ℕ → ℕ → Option (ℕ × Cursor) → Result TimeOffset TextRefusal
offset_by s a (Some (x, c)) =
    pick (eqb x (code "Z")) (Ok Utc)
    (pick (eqb x (code "+")) (shift_at s c.0 true)
    (pick (eqb x (code "-")) (shift_at s c.0 false) (Err (text_refusal InvalidFormat a c.0))))
offset_by s a None = Err (text_refusal InvalidFormat a a)

-- by the character at a place
unfoldable pub offset_from : List ℕ → ℕ → Result TimeOffset TextRefusal
offset_from s a = offset_by s a (eat_at s a)

-- white space, then Z, or a sign with hours and minutes; what stands behind the Z is not read
unfoldable pub offset_at : List ℕ → ℕ → Result TimeOffset TextRefusal
offset_at s at = offset_from s (eat_while Whitespace s at)

-- the time with the offset that was read, or its refusal
unfoldable pub with_offset : ℕ → ℕ → ℕ → Result TimeOffset TextRefusal → Result Time TextRefusal
with_offset h m sec (Ok o) = Ok (time h m sec (Some o))
with_offset h m sec (Err e) = Err e

-- behind the second: the end, or an offset
unfoldable pub behind_second : List ℕ → ℕ → ℕ → ℕ → ℕ → Result Time TextRefusal
behind_second s at h m sec = or_end s at (Ok (local h m sec)) λ a. with_offset h m sec (offset_at s a)

-- behind the minute: the end, or a second
unfoldable pub behind_minute : List ℕ → ℕ → ℕ → ℕ → Result Time TextRefusal
behind_minute s at h m =
    or_end s at (Ok (local h m 0)) λ a.
    on_separator Err (colon_at s a) λ b.
    on_part Err (sixty_at s b) λ sec next.
    behind_second s next h m sec

-- behind the hour: the end, or a minute
unfoldable pub behind_hour : List ℕ → ℕ → ℕ → Result Time TextRefusal
behind_hour s at h =
    or_end s at (Ok (local h 0 0)) λ a.
    on_separator Err (colon_at s a) λ b.
    on_part Err (sixty_at s b) λ m next.
    behind_minute s next h m

-- a time, from behind the T on
unfoldable pub time_at : List ℕ → ℕ → Result Time TextRefusal
time_at s at = on_part Err (hour_at s at) λ h next. behind_hour s next h
