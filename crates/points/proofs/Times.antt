-- A time of the strict form behind a date, read: `Thh:mm:ss`, then nothing, `Z`, or a sign and `hh:mm`.
-- Assumes nothing.
use mathlib.Core.Path.{◌≡◌}
use mathlib.Core.Bool.{Bool, true, false}
use mathlib.Core.List.{List, [], ◌∷◌, ◌++◌}
use Prim.Native.Nat.{ℕ, ◌+◌, ◌<◌}
use native.Mathlib.Nat.{add-zero}
use native.Mathlib.Omega.{arith}
use lib.Dec.{lit<}
use lib.IntN.{ℤ}
use Rattle.chars.specs.Pick.{pick}
use Rattle.scanner.specs.declared.Class.TheVariants.{Is}
use Rattle.scanner.specs.Scan.{eaten, eat_at}
use Rattle.scanner.proofs.Front.{From, from-behind, front_rest, front-char}
use Rattle.scanner.proofs.Digits.{below-digits, above-digits, is-it}
use Rattle.refusals.specs.declared.Kind.TheVariants.{InvalidNumber}
use Rattle.numbers.specs.Number.{cursor}
use Rattle.numbers.proofs.Reading.{bytes, Behind, end, printing, hyphen, behind-white, front-ate}
use Rattle.dates.specs.declared.TimeOffset.TheVariants.{Utc, Offset}
use Rattle.dates.specs.declared.Day.{Day}
use Rattle.dates.specs.declared.Month.{Month}
use Rattle.std.specs.Prelude.{Option, Some, None, Result, Ok}
use Rattle.refusals.specs.declared.TextRefusal.{TextRefusal}
use Rattle.dates.specs.declared.Datetime.{Datetime}
use Rattle.dates.specs.declared.Time.{Time}
use Rattle.dates.specs.declared.TimeOffset.{TimeOffset}
use Rattle.dates.specs.Value.{datetime}
use Rattle.points.specs.Step.{hour_at, sixty_at, colon_or, colon_from, colon_at, on_part, on_separator}
use Rattle.dates.specs.Time.{time}
use Rattle.points.specs.Time.{local, shift_at, offset_by, offset_from, offset_at, with_offset, behind_second, behind_minute, behind_hour, time_at}
use Rattle.points.specs.Point.{with_time, time_or, behind_day}
use Rattle.points.proofs.Back.{two, part-read, or-end, or-more}

-- what stands behind digits: a colon, a T, a Z, a plus
pub colon : {t : List ℕ} → Behind (0x3A ∷ t)
colon = printing (lit< tt) (lit< tt) (above-digits 0x3A (lit< tt))

pub tee : {t : List ℕ} → Behind (0x54 ∷ t)
tee = printing (lit< tt) (lit< tt) (above-digits 0x54 (lit< tt))

pub zed : {t : List ℕ} → Behind (0x5A ∷ t)
zed = printing (lit< tt) (lit< tt) (above-digits 0x5A (lit< tt))

pub plus : {t : List ℕ} → Behind (0x2B ∷ t)
plus = printing (lit< tt) (lit< tt) (below-digits 0x2B (lit< tt))

colon-read : {s t : List ℕ} {i : ℕ} → From s i (0x3A ∷ t) → colon_at s i ≡ Ok (cursor (i + 1))
unfolding colon_at colon_from colon_or
colon-read f = rw (behind-white colon f, front-ate f (Is 0x3A) (lit< tt) (is-it 0x3A))

hour-at : (h : ℕ) {s t : List ℕ} {i : ℕ} → h < 24 → Behind t → From s i (bytes (two h) ++ t) → hour_at s i ≡ Ok (h, cursor (i + 2))
unfolding hour_at
hour-at h l b f = part-read h h 0 23 InvalidNumber (add-zero h) (omega arith) (omega arith) b f

sixty-at : (m : ℕ) {s t : List ℕ} {i : ℕ} → m < 60 → Behind t → From s i (bytes (two m) ++ t) → sixty_at s i ≡ Ok (m, cursor (i + 2))
unfolding sixty_at
sixty-at m l b f = part-read m m 0 59 InvalidNumber (add-zero m) (omega arith) (omega arith) b f

hour-read : (h : ℕ) {s t : List ℕ} {i : ℕ} → h < 24 → Behind t → From s i (bytes (two h) ++ t) → time_at s i ≡ behind_hour s (i + 2) h
unfolding time_at on_part
hour-read h l b f = rw (hour-at h l b f)

minute-read : (h m : ℕ) {s t : List ℕ} {i : ℕ} → m < 60 → Behind t → From s i (0x3A ∷ bytes (two m) ++ t) → behind_hour s i h ≡ behind_minute s (i + 1 + 2) h m
unfolding behind_hour on_part on_separator
minute-read h m l b f = rw (or-more {A = Result Time TextRefusal} (Ok (local h 0 0)) _ colon f, colon-read f, sixty-at m l b (front_rest f))

second-read : (h m sec : ℕ) {s t : List ℕ} {i : ℕ} → sec < 60 → Behind t → From s i (0x3A ∷ bytes (two sec) ++ t) → behind_minute s i h m ≡ behind_second s (i + 1 + 2) h m sec
unfolding behind_minute on_part on_separator
second-read h m sec l b f = rw (or-more {A = Result Time TextRefusal} (Ok (local h m 0)) _ colon f, colon-read f, sixty-at sec l b (front_rest f))

-- the T and the time, whatever may stand behind the seconds
pub time-read : (y : ℤ) (mo : Option Month) (d : Option Day) (h m sec : ℕ) {s t : List ℕ} {i : ℕ} → h < 24 → m < 60 → sec < 60 → Behind t → From s i (0x54 ∷ bytes (two h) ++ (0x3A ∷ bytes (two m) ++ (0x3A ∷ bytes (two sec) ++ t))) → behind_day s i y mo d ≡ with_time y mo d (behind_second s (i + 1 + 2 + 1 + 2 + 1 + 2) h m sec)
unfolding behind_day time_or
time-read y mo d h m sec hh hm hs b f =
    let e = front_rest f in
    let g = from-behind (bytes (two h)) e in
    let k = from-behind (bytes (two m)) (front_rest g) in
    rw (
      or-more {A = Result Datetime TextRefusal} (Ok (datetime y mo d None)) _ tee f,
      front-ate f (Is 0x54) (lit< tt) (is-it 0x54),
      hour-read h hh colon e,
      minute-read h m hm colon g,
      second-read h m sec hs b k,
    )

module _ (h m sec : ℕ) {s : List ℕ} {i : ℕ} where
  -- no offset
  pub none_read : From s i [] → behind_second s i h m sec ≡ Ok (local h m sec)
  unfolding behind_second
  none_read f = or-end _ _ f

  -- Z; what stands behind it is not read
  pub utc-read : {t : List ℕ} → From s i (0x5A ∷ t) → behind_second s i h m sec ≡ Ok (time h m sec (Some Utc))
  unfolding behind_second offset_at offset_from offset_by eat_at eaten with_offset pick
  utc-read f = rw (or-more {A = Result Time TextRefusal} (Ok (local h m sec)) _ zed f, behind-white zed f, front-char f (lit< tt))

-- hours and minutes behind the sign
shift-read : (positive : Bool) (oh om : ℕ) {s : List ℕ} {i : ℕ} → oh < 24 → om < 60 → From s i (bytes (two oh) ++ (0x3A ∷ bytes (two om))) → shift_at s i positive ≡ Ok (Offset positive oh om)
unfolding shift_at on_part on_separator
shift-read positive oh om hh hm f =
    let g = from-behind (bytes (two oh)) f in
    rw (hour-at oh hh colon f, or-more {A = Result TimeOffset TextRefusal} (Ok (Offset positive oh 0)) _ colon g, colon-read g, sixty-at om hm end (front_rest g))

module _ (h m sec oh om : ℕ) {s : List ℕ} {i : ℕ} (hh : oh < 24) (hm : om < 60) where
  pub plus-read : From s i (0x2B ∷ bytes (two oh) ++ (0x3A ∷ bytes (two om))) → behind_second s i h m sec ≡ Ok (time h m sec (Some (Offset true oh om)))
  unfolding behind_second offset_at offset_from offset_by eat_at eaten with_offset pick
  plus-read f =
      rw (or-more {A = Result Time TextRefusal} (Ok (local h m sec)) _ plus f, behind-white plus f, front-char f (lit< tt), shift-read true oh om hh hm (front_rest f))

  pub minus-read : From s i (0x2D ∷ bytes (two oh) ++ (0x3A ∷ bytes (two om))) → behind_second s i h m sec ≡ Ok (time h m sec (Some (Offset false oh om)))
  unfolding behind_second offset_at offset_from offset_by eat_at eaten with_offset pick
  minus-read f =
      rw (or-more {A = Result Time TextRefusal} (Ok (local h m sec)) _ hyphen f, behind-white hyphen f, front-char f (lit< tt), shift-read false oh om hh hm (front_rest f))
