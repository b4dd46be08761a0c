-- An answer as a C caller finds it: the bytes of the struct knobstream_answer (c/knobstream.h), where the lowest byte of a number stands first.
use Rattle.std.specs.Prelude.{ℕ, zero, suc, ◌/◌, ◌%◌, ◌<◌, ◌≡◌}
use mathlib.Core.List.{List, [], ◌∷◌, ◌++◌, flat_map}
use Rattle.std.specs.Int.Signed.{mag}
use Rattle.codes.specs.Words.{twos}
use Rattle.codes.specs.Typed.{Bytes}
use Rattle.codes.specs.declared.Words.{Words}
use Rattle.knobstream.specs.declared.PlainDatetime.{PlainDatetime}
use Rattle.knobstream.specs.declared.PlainDate.{PlainDate}
use Rattle.knobstream.specs.declared.PlainRead.{PlainRead}
use Rattle.knobstream.specs.Plain.{words}

-- a number as so many bytes, the lowest first
unfoldable pub to_bytes : ℕ → ℕ → List ℕ
to_bytes zero w = []
to_bytes (suc n) w = w % 256 ∷ to_bytes n (w / 256)

-- words as they are stored: eight bytes each
abbrev pub in_memory : List ℕ → List ℕ
in_memory ws = flat_map (to_bytes 8) ws

-- the members of a Datetime behind its year, a byte each; the last is the season
abbrev pub small_members : PlainDatetime → List ℕ
small_members p =
    p.has_month ∷ p.month ∷ p.has_day ∷ p.day ∷ p.has_time ∷ p.hour ∷ p.minute ∷ p.second ∷ p.offset ∷ p.offset_hours
    ∷ p.offset_minutes ∷ p.season ∷ []

-- knobstream_datetime: four bytes for the year, and those behind it
abbrev pub datetime_struct : PlainDatetime → List ℕ
datetime_struct p = to_bytes 4 (twos p.year) ++ small_members p

-- knobstream_date: both Datetimes, the shape, the marks, and a byte that is reserved
abbrev pub date_struct : PlainDate → List ℕ
date_struct d = datetime_struct d.first ++ (datetime_struct d.second ++ (d.shape ∷ d.uncertain ∷ d.approximate ∷ 0 ∷ []))

-- knobstream_answer: the place, the Date, the refusal, and three bytes that are unused
abbrev pub answer_struct : PlainRead → List ℕ
answer_struct r = to_bytes 8 r.start ++ (to_bytes 8 r.end ++ (date_struct r.date ++ (r.refusal ∷ 0 ∷ 0 ∷ 0 ∷ [])))

-- the numbers of a Datetime are of their types
pub record DatetimeFits (p : PlainDatetime) : Type 0 where
  -- an int32_t: from -2147483648 to 2147483647
  pub year_fits : mag p.year < 2147483648
  -- a uint8_t each
  pub bytes_fit : Bytes (small_members p)

-- the numbers of an answer are of their types
pub record Fits (r : PlainRead) : Type 0 where
  -- where the place starts: a uint64_t
  pub start_fits : r.start < 18446744073709551616
  -- where it ends: a uint64_t too
  pub end_fits : r.end < 18446744073709551616
  -- the first Datetime
  pub first_fits : DatetimeFits r.date.first
  -- the second
  pub second_fits : DatetimeFits r.date.second
  -- a uint8_t each
  pub bytes_fit : Bytes (r.date.shape ∷ r.date.uncertain ∷ r.date.approximate ∷ r.refusal ∷ [])

-- the words of a reader's answer, as they are stored
abbrev pub listed : Words → List ℕ
listed w = w.start ∷ w.end ∷ w.first ∷ w.first_time ∷ w.second ∷ w.second_time ∷ w.last ∷ []

-- what the words that a caller lends say after a call
pub record Answered (ws : List ℕ) (r : PlainRead) : Type 0 where
  -- they are the seven words of an answer
  pub in_words : ws ≡ words r
  -- whose numbers are of their types
  pub fits : Fits r
  -- and stored they are the struct
  pub in_bytes : in_memory ws ≡ answer_struct r
