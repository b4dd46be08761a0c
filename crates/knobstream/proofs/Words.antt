-- The seven words of an answer, stored, are the struct that a C caller lends, byte by byte; and they tell the answer whole.
-- Assumes nothing.
use mathlib.Core.Path.{◌≡◌, refl, ap, ◌∙◌}
use mathlib.Core.Bool.{Bool}
use mathlib.Core.List.{List, [], ◌∷◌, ◌++◌, flat_map, append_assoc}
use Prim.Native.Nat.{ℕ, suc, ◌+◌, ◌*◌, ◌/◌, ◌%◌, ◌<◌}
use native.Mathlib.Omega.{arith}
use lib.IntN.{ℤ, pos, negsuc}
use lib.Signed.{mag}
use lib.ListN.{length}
use Rattle.dates.specs.declared.Datetime.{Datetime}
use Rattle.dates.specs.declared.DateValue.{DateValue}
use Rattle.dates.specs.declared.DateValue.TheVariants.{At, After, Before, Between}
use Rattle.dates.specs.declared.Date.{Date}
use Rattle.dates.specs.Ends.{EachEnd}
use Rattle.refusals.specs.declared.Refusal.{Refusal}
use Rattle.std.specs.Prelude.{Result, Ok, Err}
use Rattle.refusals.specs.Refusal.{number}
use Rattle.refusals.proofs.Told.{number_in}
use Rattle.codes.specs.Words.{twos, flag, clock_of, four_bytes, last_word, words_of}
use Rattle.codes.specs.Typed.{Bytes, DatetimeTyped, Typed}
use Rattle.codes.proofs.Unpacking.{twos_in, month-flag, day-flag, time-flag, sort-in, season-in, flag-in}
use Rattle.knobstream.specs.declared.PlainDatetime.{PlainDatetime}
use Rattle.knobstream.specs.declared.PlainRead.{PlainRead}
use Rattle.knobstream.specs.Plain.{datetime, no_datetime, no_date, accepted, date, read, day_word, time_word, words}
use Rattle.knobstream.specs.Layout.{to_bytes, in_memory, datetime_struct, answer_struct, DatetimeFits, Fits, listed, Answered}

-- what is added above the lowest byte of a number leaves that byte as it is
above : (n y v : ℕ) → to_bytes (suc n) (y + 256 * v) ≡ y % 256 ∷ to_bytes n (y / 256 + v)
unfolding to_bytes
above n y v =
    let e : (y + 256 * v) % 256 ≡ y % 256 = omega arith in
    let f : (y + 256 * v) / 256 ≡ y / 256 + v = omega arith in
    rw (e, f)

-- a byte with a number above it
lowest : (n a w : ℕ) → a < 256 → to_bytes (suc n) (a + 256 * w) ≡ a ∷ to_bytes n w
lowest n a w h =
    let e : a % 256 ≡ a = omega arith in
    let f : a / 256 + w ≡ w = omega arith in
    rw (above n a w, e, f)

one_byte : (a : ℕ) → a < 256 → to_bytes 1 a ≡ a ∷ []
unfolding to_bytes
one_byte a h = let e : a % 256 ≡ a = omega arith in rw e

four_bytes_lem : (a b c d : ℕ) → Bytes (a ∷ b ∷ c ∷ d ∷ []) → to_bytes 4 (four_bytes a b c d) ≡ a ∷ b ∷ c ∷ d ∷ []
four_bytes_lem a b c d (ha, (hb, (hc, (hd, _)))) =
    let e : four_bytes a b c d ≡ a + 256 * (b + 256 * (c + 256 * d)) = omega arith in
    rw (e, lowest, lowest, lowest, one_byte)

-- a word is its lower half, and its upper half behind that
four-lowest : (y : ℕ) → to_bytes 4 y ≡ y % 256 ∷ y / 256 % 256 ∷ y / 256 / 256 % 256 ∷ y / 256 / 256 / 256 % 256 ∷ []
unfolding to_bytes
four-lowest y = refl

halves : (y z : ℕ) → y < 4294967296 → to_bytes 8 (y + 4294967296 * z) ≡ to_bytes 4 y ++ to_bytes 4 z
halves y z h =
    let e : y + 4294967296 * z ≡ y + 256 * (256 * (256 * (256 * z))) = omega arith in
    let f : y / 256 / 256 / 256 / 256 + z ≡ z = omega arith in
    rw (e, above, above, above, above, f, four-lowest y)

eight-bytes : (a b c d e f g h : ℕ) → Bytes (a ∷ b ∷ c ∷ d ∷ []) → Bytes (e ∷ f ∷ g ∷ h ∷ [])
    → to_bytes 8 (four_bytes a b c d + 4294967296 * four_bytes e f g h) ≡ a ∷ b ∷ c ∷ d ∷ e ∷ f ∷ g ∷ h ∷ []
eight-bytes a b c d e f g h l m =
    let k : four_bytes a b c d < 4294967296 = omega arith in
    rw (halves, four_bytes_lem a b c d l, four_bytes_lem e f g h m)

module _ (p : PlainDatetime) (h : DatetimeFits p) where
  day-bytes : to_bytes 8 (day_word p) ≡ to_bytes 4 (twos p.year) ++ (p.has_month ∷ p.month ∷ p.has_day ∷ p.day ∷ [])
  day-bytes =
      let y = twos_in p.year h.year_fits in
      rw (halves, four_bytes_lem p.has_month p.month p.has_day p.day (omega arith))

  time-bytes : to_bytes 8 (time_word p)
      ≡ p.has_time ∷ p.hour ∷ p.minute ∷ p.second ∷ p.offset ∷ p.offset_hours ∷ p.offset_minutes ∷ p.season ∷ []
  time-bytes =
      eight-bytes p.has_time p.hour p.minute p.second p.offset p.offset_hours p.offset_minutes p.season
      (omega arith) (omega arith)

  -- the two words of a Datetime, before others
  datetime-laid : (rest : List ℕ) → to_bytes 8 (day_word p) ++ (to_bytes 8 (time_word p) ++ rest) ≡ datetime_struct p ++ rest
  datetime-laid rest = rw (day-bytes, time-bytes) (simp append_assoc)

last-bytes : (a b c d : ℕ) → Bytes (a ∷ b ∷ c ∷ d ∷ []) → to_bytes 8 (last_word a b c d) ≡ a ∷ b ∷ c ∷ 0 ∷ d ∷ 0 ∷ 0 ∷ 0 ∷ []
last-bytes a b c d h = eight-bytes a b c 0 d 0 0 0 (omega arith) (omega arith)

-- the words of an answer, stored, are the struct
pub laid_out : (r : PlainRead) → Fits r → in_memory (words r) ≡ answer_struct r
unfolding flat_map
laid_out r h =
    let d = r.date in
    let l = last-bytes d.shape d.uncertain d.approximate r.refusal h.bytes_fit in
    rw (datetime-laid d.first h.first_fits, datetime-laid d.second h.second_fits, l) (simp append_assoc)

none-fits : DatetimeFits no_datetime
none-fits = omega arith

-- a refusal has no Date
refused-fits : (a b n : ℕ) → a < 18446744073709551616 → b < 18446744073709551616 → n < 256
    → Fits (record { start = a; end = b; date = no_date; refusal = n })
refused-fits a b n ha hb hn =
    record { start_fits = ha; end_fits = hb; first_fits = none-fits; second_fits = none-fits; bytes_fit = omega arith }

-- what was stored, if it is the words of an answer whose numbers are of their types
answered : (r : PlainRead) {ws : List ℕ} → Fits r → ws ≡ words r → Answered ws r
answered r h e = record { in_words = e; fits = h; in_bytes = rw e (laid_out r h) }

-- a Datetime whose numbers are of their types, as a struct
datetime-fits : (d : Datetime) → DatetimeTyped d → DatetimeFits (datetime d)
datetime-fits d h =
    let m = month-flag d.month in
    let n = day-flag d.day in
    let t = time-flag d.time in
    let o = sort-in (clock_of d.time).offset in
    let s = season-in d.season in
    record { year_fits = h.year_typed; bytes_fit = omega arith }

-- an answer of two structs
both-fit : {n : ℕ} (u p : Bool) {a b : PlainDatetime} → n < 256 → DatetimeFits a → DatetimeFits b
    → Fits (accepted (record { shape = n; uncertain = flag u; approximate = flag p; first = a; second = b }))
both-fit u p h f g =
    record { start_fits = omega arith; end_fits = omega arith; first_fits = f; second_fits = g; bytes_fit = (h, (omega (arith, flag-in u), (omega (arith, flag-in p), (omega arith, tt)))) }

accepted-fits : (d : Date) (v : DateValue) → d.value ≡ v → EachEnd DatetimeTyped v → Fits (accepted (date d))
accepted-fits d (At a) e t = rw e (both-fit d.uncertain d.approximate (omega arith) (datetime-fits a t) none-fits)
accepted-fits d (After a) e t = rw e (both-fit d.uncertain d.approximate (omega arith) (datetime-fits a t) none-fits)
accepted-fits d (Before a) e t = rw e (both-fit d.uncertain d.approximate (omega arith) (datetime-fits a t) none-fits)
accepted-fits d (Between a b) e t = rw e (both-fit d.uncertain d.approximate (omega arith) (datetime-fits a t.0) (datetime-fits b t.1))

accepted-words : (d : Date) (v : DateValue) → d.value ≡ v → listed (words_of (Ok d)) ≡ words (accepted (date d))
unfolding twos
accepted-words d (At a) e = rw e
accepted-words d (After a) e = rw e
accepted-words d (Before a) e = rw e
accepted-words d (Between a b) e = rw e

-- what a reader answers, in its words
pub read-answered : (r : Result Date Refusal) → Typed r → {ws : List ℕ} → ws ≡ listed (words_of r) → Answered ws (read r)
unfolding twos
read-answered (Ok d) t e = answered (accepted (date d)) (accepted-fits d d.value refl t) (e ∙ accepted-words d d.value refl)
read-answered (Err q) t e = answered _ (refused-fits q.place.0 q.place.1 (number q.kind) t.0 t.1 (number_in q.kind).1) e

-- the struct has 56 bytes
pub size : (r : PlainRead) → length (answer_struct r) ≡ 56
unfolding to_bytes
size r = refl

-- the way back: numbers are told by the word that they make
module _ (a b c d : ℕ) {a' b' c' d' : ℕ} (h : Bytes (a ∷ b ∷ c ∷ d ∷ [])) (k : Bytes (a' ∷ b' ∷ c' ∷ d' ∷ [])) where
  four_same : four_bytes a b c d ≡ four_bytes a' b' c' d' → (a ≡ a') × ((b ≡ b') × ((c ≡ c') × (d ≡ d')))
  four_same e = omega arith

  last-same : last_word a b c d ≡ last_word a' b' c' d' → (a ≡ a') × ((b ≡ b') × ((c ≡ c') × (d ≡ d')))
  last-same e = omega arith

twos-same : (y z : ℤ) → mag y < 2147483648 → mag z < 2147483648 → twos y ≡ twos z → y ≡ z
unfolding twos
twos-same (pos n) (pos m) h k e = ap pos e
twos-same (pos n) (negsuc m) h k e = absurd (omega arith)
twos-same (negsuc n) (pos m) h k e = absurd (omega arith)
twos-same (negsuc n) (negsuc m) h k e = ap negsuc (omega arith)

module _ (p q : PlainDatetime) (h : DatetimeFits p) (k : DatetimeFits q) where
  day-same : day_word p ≡ day_word q
      → (p.year ≡ q.year) × ((p.has_month ≡ q.has_month) × ((p.month ≡ q.month) × ((p.has_day ≡ q.has_day) × (p.day ≡ q.day))))
  day-same e =
      let l = twos_in p.year h.year_fits in
      let m = twos_in q.year k.year_fits in
      let y = twos-same p.year q.year h.year_fits k.year_fits (omega arith) in
      (y, four_same p.has_month p.month p.has_day p.day (omega arith) (omega arith) (omega arith))

  time-same : time_word p ≡ time_word q
      → (p.has_time ≡ q.has_time) × ((p.hour ≡ q.hour) × ((p.minute ≡ q.minute) × (p.second ≡ q.second)))
  time-same e = four_same p.has_time p.hour p.minute p.second (omega arith) (omega arith) (omega arith)

  offset-same : time_word p ≡ time_word q
      → (p.offset ≡ q.offset) × ((p.offset_hours ≡ q.offset_hours) × ((p.offset_minutes ≡ q.offset_minutes) × (p.season ≡ q.season)))
  offset-same e = four_same p.offset p.offset_hours p.offset_minutes p.season (omega arith) (omega arith) (omega arith)

  datetime-same : day_word p ≡ day_word q → time_word p ≡ time_word q → p ≡ q
  datetime-same e f =
      let a = day-same e in
      let b = time-same f in
      let c = offset-same f in
      λ i.
      record {
        year = a.0 i;
        has_month = a.1.0 i;
        month = a.1.1.0 i;
        has_day = a.1.1.1.0 i;
        day = a.1.1.1.1 i;
        has_time = b.0 i;
        hour = b.1.0 i;
        minute = b.1.1.0 i;
        second = b.1.1.1 i;
        offset = c.0 i;
        offset_hours = c.1.0 i;
        offset_minutes = c.1.1.0 i;
        season = c.1.1.1 i;
      }

-- two answers with the same words are the same
pub same-words : (r s : PlainRead) → Fits r → Fits s → words r ≡ words s → r ≡ s
same-words r s h k e =
    let d = r.date in
    let a : r.start ≡ s.start = cc in
    let b : r.end ≡ s.end = cc in
    let f = datetime-same d.first s.date.first h.first_fits k.first_fits (cc) (cc) in
    let g = datetime-same d.second s.date.second h.second_fits k.second_fits (cc) (cc) in
    let l = last-same d.shape d.uncertain d.approximate r.refusal h.bytes_fit k.bytes_fit (cc) in
    λ i.
    record {
      start = a i;
      end = b i;
      date = record { shape = l.0 i; uncertain = l.1.0 i; approximate = l.1.1.0 i; first = f i; second = g i };
      refusal = l.1.1.1 i;
    }
