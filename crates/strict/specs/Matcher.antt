-- The strict reader, as definitions: a reader is given a text, or a text and a place in it, and looks at what stands there.
-- That it accepts exactly what the grammar derives is proved in `proofs/Exact.antt`.
use Rattle.std.specs.Prelude.{ℕ, ◌+◌, ◌-◌, ◌*◌, Bool, true, false, ◌&&◌, List, [], ◌∷◌, leb, eqb, ℤ, get_or, drop, Option, Some, None}
use Prim.Native.Char.{code}
use Rattle.chars.specs.Pick.{pick}
use Rattle.chars.specs.Classes.{is_ascii_digit}
use Rattle.dates.specs.declared.Date.{Date}
use Rattle.dates.specs.declared.TimeOffset.TheVariants.{Utc, Offset}
use Rattle.dates.specs.declared.Datetime.{Datetime}
use Rattle.dates.specs.declared.DateValue.{DateValue}
use Rattle.dates.specs.declared.DateValue.TheVariants.{At, After, Before, Between}
use Rattle.dates.specs.Value.{datetime, date, month, day}
use Rattle.dates.specs.Calendar.{month_length}
use Rattle.strict.specs.Grammar.{plain, last_day}
use Rattle.strict.specs.declared.ReadOffset.{ReadOffset}
use Rattle.strict.specs.declared.ReadTime.{ReadTime}
use Rattle.chars.specs.Signs.{signed}

-- the byte at a place is this one
abbrev pub is : ℕ → List ℕ → ℕ → Bool
is c s at = eqb (get_or s at 0) c

-- the number that two digits at the front write
unfoldable pub two : List ℕ → Option ℕ
two s = pick (is_ascii_digit (get_or s 0 0) && is_ascii_digit (get_or s 1 0)) (Some ((get_or s 0 0 - code "0") * 10 + (get_or s 1 0 - code "0"))) None

-- a number of two digits goes on, else there is another answer
unfoldable pub on : {A : Type 0} → Option ℕ → A → (ℕ → A) → A
on None absent go = absent
on (Some n) absent go = go n

-- four digits likewise
unfoldable pub on_four : {A : Type 0} → Option ℕ → A → (ℕ → A) → A
on_four None absent go = absent
on_four (Some n) absent go = go n

-- the number that four digits at the front write
unfoldable pub four : List ℕ → Option ℕ
four s = on (two s) None λ a. on (two (drop 2 s)) None λ b. Some (a * 100 + b)

-- a number from the first to the last one given, counted from the first
unfoldable pub counted : ℕ → ℕ → Option ℕ → Option ℕ
counted first last o = on o None λ n. pick (leb first n && leb n last) (Some (n - first)) None

-- a character and two digits at the front
unfoldable pub field : ℕ → ℕ → ℕ → List ℕ → Option ℕ
field c first last s = pick (is c s 0) (counted first last (two (drop 1 s))) None

-- without an offset what follows is looked at from the same place
abbrev pub without_offset : ℕ → ReadOffset
without_offset at = record { offset = None; next = at }

-- a sign and hh:mm at a place
unfoldable pub shift_at : List ℕ → ℕ → ℕ → Bool → ReadOffset
shift_at s at sign positive =
    on (field sign 0 23 (drop at s)) (without_offset at) λ h.
    on (field (code ":") 0 59 (drop (at + 3) s)) (without_offset at) λ m.
    record { offset = Some (Offset positive h m); next = at + 6 }

-- Z, +hh:mm or -hh:mm at a place
unfoldable pub offset_at : List ℕ → ℕ → ReadOffset
offset_at s at =
    pick (is (code "Z") s at) (record { offset = Some Utc; next = at + 1 })
    (pick (is (code "+") s at) (shift_at s at (code "+") true) (shift_at s at (code "-") false))

-- without a time likewise
abbrev pub without_time : ℕ → ReadTime
without_time at = record { time = None; next = at }

-- a time ends where its offset does
abbrev pub timed : ℕ → ℕ → ℕ → ReadOffset → ReadTime
timed h m sec o = record { time = Some (record { hour = h; minute = m; second = sec; offset = o.offset }); next = o.next }

-- Thh:mm:ss at a place, then perhaps an offset
unfoldable pub time_at : List ℕ → ℕ → ReadTime
time_at s at =
    on (field (code "T") 0 23 (drop at s)) (without_time at) λ h.
    on (field (code ":") 0 59 (drop (at + 3) s)) (without_time at) λ m.
    on (field (code ":") 0 59 (drop (at + 6) s)) (without_time at) λ sec.
    timed h m sec (offset_at s (at + 9))

-- a point with a day ends where its time does
abbrev pub day_point : ℤ → ℕ → ℕ → ReadTime → Option (Datetime × ℕ)
day_point y m d t = Some (datetime y (month m) (day d) t.time, t.next)

-- behind a year and a month: -dd that the month has
unfoldable pub behind_month : List ℕ → ℕ → ℤ → ℕ → Option (Datetime × ℕ)
behind_month s at y m =
    on (field (code "-") 1 (month_length m y) (drop at s)) (Some (datetime y (month m) None None, at)) λ d.
    day_point y m d (time_at s (at + 3))

-- behind a year: -mm, or the point ends
unfoldable pub behind_year : List ℕ → ℕ → ℤ → Option (Datetime × ℕ)
behind_year s at y =
    on (field (code "-") 1 12 (drop at s)) (Some (datetime y None None None, at)) λ m.
    behind_month s (at + 3) y m

-- a point whose digits start at a place
unfoldable pub point_at : List ℕ → ℕ → Bool → Option (Datetime × ℕ)
point_at s at negative = on_four (four (drop at s)) None λ n. behind_year s (at + 4) (signed negative n)

-- a point at the front, as long as it goes; what may not follow is refused by who looks at the rest
unfoldable pub point : List ℕ → Option (Datetime × ℕ)
point s = pick (is (code "-") s 0) (point_at s 1 true) (point_at s 0 false)

-- -XX at the front
unfoldable pub dash_xx : List ℕ → Bool
dash_xx s = is (code "-") s 0 && (is (code "X") s 1 && is (code "X") s 2)

-- the years from one to another, which four characters stand for
unfoldable pub years : ℕ → ℕ → Option (DateValue × ℕ)
years first last = Some (Between (plain first None None) (plain last None None), 4)

-- all months of a year
unfoldable pub months : ℕ → ℕ → Option (DateValue × ℕ)
months n next = Some (Between (plain n (month 0) None) (plain n (month 11) None), next)

-- all days of a month
unfoldable pub days : ℕ → ℕ → Option (DateValue × ℕ)
days n m = Some (Between (plain n (month m) (day 0)) (plain n (month m) (day (last_day m n))), 10)

-- behind two digits, and with an X fourth: an X or a digit
unfoldable pub unknown_years : List ℕ → ℕ → Option (DateValue × ℕ)
unknown_years s n =
    pick (is (code "X") s 2) (years (n * 100) (n * 100 + 99))
    (pick (is_ascii_digit (get_or s 2 0)) (years ((n * 10 + (get_or s 2 0 - code "0")) * 10) ((n * 10 + (get_or s 2 0 - code "0")) * 10 + 9)) None)

-- behind four digits: -XX, -XX-XX or -mm-XX
unfoldable pub unknown_parts : List ℕ → ℕ → Option (DateValue × ℕ)
unknown_parts s n =
    pick (dash_xx (drop 4 s)) (pick (dash_xx (drop 7 s)) (months n 10) (months n 7))
    (on (field (code "-") 1 12 (drop 4 s)) None λ m. pick (dash_xx (drop 7 s)) (days n m) None)

-- a range by X at the front
unfoldable pub unknown : List ℕ → Option (DateValue × ℕ)
unknown s =
    pick (is (code "X") s 3) (on (two s) None λ n. unknown_years s n)
    (on_four (four s) None λ n. unknown_parts s n)

-- the answer that is a Date
abbrev pub strictly : DateValue → Bool → Bool → Option Date
strictly v uncertain approximate = Some (date v uncertain approximate)

-- the last character, if one is left, must be a mark
unfoldable pub marked : DateValue → ℕ → Option Date
marked v c =
    pick (eqb c (code "?")) (strictly v true false)
    (pick (eqb c (code "~")) (strictly v false true)
    (pick (eqb c (code "%")) (strictly v true true) None))

-- what is left: nothing, or one mark
unfoldable pub ending : DateValue → List ℕ → Option Date
ending v [] = strictly v false false
ending v (c ∷ []) = marked v c
ending v (c ∷ d ∷ s) = None

-- `..` at the front
unfoldable pub is_open : List ℕ → Bool
is_open s = is (code ".") s 0 && is (code ".") s 1

-- a point goes on with the place behind it
unfoldable pub on_point : Option (Datetime × ℕ) → (Datetime → ℕ → Option Date) → Option Date
on_point None go = None
on_point (Some (a, next)) go = go a next

-- behind `../`: a point. This and what follows is over a reader of points, as the grammar's values are over a kind of them
unfoldable pub behind_open : (List ℕ → Option (Datetime × ℕ)) → List ℕ → Option Date
behind_open read s = on_point (read s) λ b next. ending (Before b) (drop next s)

-- behind a point and a slash: `..` or a point
unfoldable pub behind_slash : (List ℕ → Option (Datetime × ℕ)) → Datetime → List ℕ → Option Date
behind_slash read a s = pick (is_open s) (ending (After a) (drop 2 s)) (on_point (read s) λ b next. ending (Between a b) (drop next s))

-- a point, then a slash or the end
unfoldable pub from_point : (List ℕ → Option (Datetime × ℕ)) → List ℕ → Option Date
from_point read s =
    on_point (read s) λ a next.
    pick (is (code "/") s next) (behind_slash read a (drop (next + 1) s)) (ending (At a) (drop next s))

-- no range by X: `../` or a point
unfoldable pub of_points : (List ℕ → Option (Datetime × ℕ)) → List ℕ → Option Date
of_points read s = pick (is_open s) (pick (is (code "/") s 2) (behind_open read (drop 3 s)) None) (from_point read s)

-- a range by X goes on, else there is another answer
unfoldable pub on_unknown : Option (DateValue × ℕ) → Option Date → (DateValue → ℕ → Option Date) → Option Date
on_unknown None absent go = absent
on_unknown (Some (v, next)) absent go = go v next

-- the whole text: X is tried first, as no point has one
unfoldable pub text_of : (List ℕ → Option (Datetime × ℕ)) → List ℕ → Option Date
text_of read s = on_unknown (unknown s) (of_points read s) λ v next. ending v (drop next s)

-- the matcher; `exact` in proofs/Exact.antt says that it accepts what the grammar derives
unfoldable pub strict : List ℕ → Option Date
strict s = text_of point s
