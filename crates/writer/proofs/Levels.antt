-- What is said of seasons and of level one: when the writers refuse, and what their texts depend on. Assumes nothing.
use mathlib.Core.Path.{◌≡◌, refl, sym, ap, ◌∙◌}
use mathlib.Core.Bool.{Bool, true, false, false≢true}
use mathlib.Core.List.{List, [], ◌++◌}
use mathlib.Core.Logic.{◌↔◌}
use Prim.Native.Nat.{ℕ, ◌+◌, ◌≤◌, ◌<◌}
use native.Mathlib.Omega.{arith}
use lib.Dec.{eqb, ltb, leb}
use lib.IntN.{ℤ, nat_abs}
use lib.ListN.{length, length-append}
use borrow.Author.Tests.{eq-eqb, eqb-true, lt-ltb, lt-leb, le-leb, leb-true, leb-false}
use Rattle.chars.specs.Pick.{pick}
use Rattle.chars.specs.Ascii.{ascii}
use Rattle.chars.proofs.Cases.{by-test, of_test}
use Rattle.refusals.specs.declared.Kind.TheVariants.{RustPanics, NoRoom, HasSeason}
use Rattle.refusals.specs.Refusal.{refusal, number, nowhere}
use Rattle.dates.specs.declared.Month.{Month}
use Rattle.dates.specs.declared.Day.{Day}
use Rattle.dates.specs.declared.Season.{Season}
use Rattle.dates.specs.declared.Season.TheVariants.{Autumn, Spring, Summer, Winter}
use Rattle.refusals.specs.declared.Refusal.{Refusal}
use Rattle.std.specs.Prelude.{Option, Some, None, Result, Ok, Err}
use Rattle.dates.specs.declared.Datetime.{Datetime}
use Rattle.dates.specs.declared.DateValue.{DateValue}
use Rattle.dates.specs.declared.DateValue.TheVariants.{At, After, Before, Between}
use Rattle.dates.specs.declared.Date.{Date}
use Rattle.dates.specs.Ends.{EachEnd, SomeEnd}
use Rattle.dates.specs.Value.{is_season, season_number, has_season, any_season}
use Rattle.dates.proofs.Ends.{any-end}
use Rattle.puts.specs.Numbers.{count, digit_count, width, decimal}
use Rattle.writer.specs.Texts.{minus, year_text, written_month, written_day, day_parts, month_parts, parts_of, part_text, hyphen_part, parts_text, datetime_text, value_text, date_text, too_large, end_panics, value_panics, panics}
use Rattle.puts.specs.Marks.{mark_text}
use Rattle.puts.specs.Answers.{measured, decided, answer, left, afterwards}
use Rattle.writer.specs.Answers.{date_measured, date_answer, date_afterwards}
use Rattle.writer.specs.Level.{long_sign, behind_text, level_end, level_value, level_text, level_end_panics, level_value_panics, level_panics, Unwritten, month_255, day_255, NoText, Alike, AlikeValues, points, afters, befores, betweens}
use Rattle.writer.specs.Sizes.{Stored, Ends, LevelNarrow, narrow, seasoned, long}
use Rattle.writer.proofs.Pieces.{first-false, second-false}
use Rattle.puts.proofs.Counts.{few}
use Rattle.writer.proofs.Bounds.{year-by, year-most, year-short, behind-most, datetime-short, joined_by, widest}

-- ---- the answers of a writer

-- the number of an answer's refusal; 0 if it is none
abbrev told : Result ℕ Refusal → ℕ
told (Ok n) = 0
told (Err e) = number e.kind

no_answer : {v w : Result ℕ Refusal} → (told v ≡ told w → ⊥) → v ≡ w → ⊥
no_answer f e = f (ap told e)

-- by two tests: whether there is no text, and whether there is room
abbrev shown : Bool → Bool → ℕ → Result ℕ Refusal
shown p f n = pick p (Err (nowhere RustPanics)) (pick f (Ok n) (Err (nowhere NoRoom)))

in_order : (p : Bool) (t : List ℕ) (room : ℕ) → answer p t room ≡ shown p (leb (length t) room) (length t)
unfolding answer measured decided pick
in_order true t room = refl
in_order false t room = refl

-- which tests lead to which answer
module _ (n : ℕ) where
  panics-only : (p f : Bool) → shown p f n ≡ Err (nowhere RustPanics) → p ≡ true
  unfolding refusal pick
  panics-only true f e = refl
  panics-only false true e = absurd (no_answer (λ (z : ◌≡◌ {A = ℕ} 0 9). omega arith) e)
  panics-only false false e = absurd (no_answer (λ (z : ◌≡◌ {A = ℕ} 13 9). omega arith) e)

  room-only : (p f : Bool) → shown p f n ≡ Err (nowhere NoRoom) → (p ≡ false) × (f ≡ false)
  unfolding refusal pick
  room-only true f e = absurd (no_answer (λ (z : ◌≡◌ {A = ℕ} 9 13). omega arith) e)
  room-only false true e = absurd (no_answer (λ (z : ◌≡◌ {A = ℕ} 0 13). omega arith) e)
  room-only false false e = (refl, refl)

  done-only : (p f : Bool) → shown p f n ≡ Ok n → (p ≡ false) × (f ≡ true)
  unfolding refusal pick
  done-only true f e = absurd (no_answer (λ (z : ◌≡◌ {A = ℕ} 9 0). omega arith) e)
  done-only false true e = (refl, refl)
  done-only false false e = absurd (no_answer (λ (z : ◌≡◌ {A = ℕ} 13 0). omega arith) e)

  no-season : (p f : Bool) → shown p f n ≡ Err (nowhere HasSeason) → ⊥
  unfolding refusal pick
  no-season true f e = no_answer (λ (z : ◌≡◌ {A = ℕ} 9 24). omega arith) e
  no-season false true e = no_answer (λ (z : ◌≡◌ {A = ℕ} 0 24). omega arith) e
  no-season false false e = no_answer (λ (z : ◌≡◌ {A = ℕ} 13 24). omega arith) e

-- ---- seasons and the writers that know none

module _ (d : Date) (t : List ℕ) where
  -- an end has a season: HasSeason, and nothing is stored
  pub season-refused : any_season d.value ≡ true → (date_measured d t ≡ Err (nowhere HasSeason)) × ((room : ℕ) → date_answer d t room ≡ Err (nowhere HasSeason)) × ((out : List ℕ) → date_afterwards d t out ≡ out)
  unfolding date_measured date_answer date_afterwards decided left pick
  season-refused e = (
    ap (λ (x : Bool). pick x (Err (nowhere HasSeason)) (measured (panics d) t)) e,
    λ (room : ℕ). ap (λ (x : Bool). decided (pick x (Err (nowhere HasSeason)) (measured (panics d) t)) room) e,
    λ (out : List ℕ). ap (λ (x : Bool). left (decided (pick x (Err (nowhere HasSeason)) (measured (panics d) t)) (length out)) t out) e,
  )

  -- without a season all is as before
  pub else-as-before : any_season d.value ≡ false → (date_measured d t ≡ measured (panics d) t) × ((room : ℕ) → date_answer d t room ≡ answer (panics d) t room) × ((out : List ℕ) → date_afterwards d t out ≡ afterwards (panics d) t out)
  unfolding date_measured date_answer date_afterwards answer afterwards pick
  else-as-before e = (
    ap (λ (x : Bool). pick x (Err (nowhere HasSeason)) (measured (panics d) t)) e,
    λ (room : ℕ). ap (λ (x : Bool). decided (pick x (Err (nowhere HasSeason)) (measured (panics d) t)) room) e,
    λ (out : List ℕ). ap (λ (x : Bool). left (decided (pick x (Err (nowhere HasSeason)) (measured (panics d) t)) (length out)) t out) e,
  )

module _ (d : Date) (t : List ℕ) where
  -- HasSeason is answered exactly if an end has a season, whatever else is wrong,
  pub season-answered : (room : ℕ) → (date_answer d t room ≡ Err (nowhere HasSeason)) ↔ (any_season d.value ≡ true)
  season-answered room = (
    λ e. of_test (any_season d.value) (λ q. q)
        (λ q. absurd (no-season (length t) (panics d) (leb (length t) room) (sym (in_order (panics d) t room) ∙ sym ((else-as-before d t q).1 room) ∙ e))),
    λ q. (season-refused d t q).1 room,
  )

  -- and so it is with the length
  pub season-exactly : (date_measured d t ≡ Err (nowhere HasSeason)) ↔ (any_season d.value ≡ true)
  unfolding date_answer decided
  season-exactly = (λ e. (season-answered 0).0 (ap (λ (m : Result ℕ Refusal). decided m 0) e), λ q. (season-refused d t q).0)

-- ---- when the writer of level one refuses

day-large : (m : Month) (d : Option Day) → too_large (day_parts m d) ≡ true → Unwritten (Some m) d
unfolding too_large day_parts pick
day-large m None e = absurd (false≢true e)
day-large m (Some d) e =
    of_test (eqb d.0 255) (λ q. day_255 (eqb-true d.0 255 q)) (λ q. absurd (false≢true (rw q at e)))

large : (m : Option Month) (d : Option Day) → too_large (month_parts m d) ≡ true → Unwritten m d
unfolding too_large month_parts pick
large None d e = absurd (false≢true e)
large (Some m) d e = of_test (eqb m.0 255) (λ q. month_255 (eqb-true m.0 255 q)) (λ q. day-large m d (rw q at e))

unwritten : {m : Option Month} {d : Option Day} → Unwritten m d → too_large (month_parts m d) ≡ true
unfolding too_large month_parts day_parts pick
unwritten (month_255 {m} e) = rw (eq-eqb m.0 255 e)
unwritten (day_255 {m} {d} e) = rw (eq-eqb d.0 255 e) (of_test (eqb m.0 255) (λ q. rw q) (λ q. rw q))

-- an end has none exactly if it is such a one
pub end_refused : (d : Datetime) → (level_end_panics d ≡ true) ↔ NoText d
unfolding level_end_panics end_panics parts_of pick
end_refused d = (λ e. go (has_season d) refl e, λ (n : NoText d). back n.0 (unwritten n.1))
  where
    go : (b : Bool) → has_season d ≡ b → pick b false (too_large (month_parts d.month d.day)) ≡ true → NoText d
    go true q e = absurd (false≢true e)
    go false q e = (q, large d.month d.day e)

    back : has_season d ≡ false → too_large (month_parts d.month d.day) ≡ true → pick (has_season d) false (too_large (month_parts d.month d.day)) ≡ true
    back q e = ap (λ (b : Bool). pick b false (too_large (month_parts d.month d.day))) q ∙ e

value-refused : (v : DateValue) → (level_value_panics v ≡ true) ↔ SomeEnd NoText v
unfolding level_value_panics
value-refused v = any-end end_refused v

-- a Date has none exactly if one of its ends has none
pub level-refuses : (d : Date) → (level_panics d ≡ true) ↔ SomeEnd NoText d.value
unfolding level_panics
level-refuses d = value-refused d.value

module _ (d : Date) (room : ℕ) where
  abbrev n : ℕ
  n = length (level_text d)

  given : answer (level_panics d) (level_text d) room ≡ shown (level_panics d) (leb n room) n
  given = in_order (level_panics d) (level_text d) room

  no_end : level_panics d ≡ false → SomeEnd NoText d.value → ⊥
  no_end q h = false≢true (sym q ∙ (level-refuses d).1 h)

  has-text : (SomeEnd NoText d.value → ⊥) → level_panics d ≡ false
  has-text f = of_test (level_panics d) (λ q. absurd (f ((level-refuses d).0 q))) (λ q. q)

  -- RustPanics is answered exactly if an end has no text,
  pub level-panics : (answer (level_panics d) (level_text d) room ≡ Err (nowhere RustPanics)) ↔ SomeEnd NoText d.value
  unfolding pick
  level-panics = (
    λ e. (level-refuses d).0 (panics-only n (level_panics d) (leb n room) (sym given ∙ e)),
    λ h. given ∙ rw ((level-refuses d).1 h),
  )

  -- NoRoom exactly if each has one and the buffer is shorter than the text,
  pub level-no-room : (answer (level_panics d) (level_text d) room ≡ Err (nowhere NoRoom)) ↔ ((SomeEnd NoText d.value → ⊥) × (room < length (level_text d)))
  unfolding pick
  level-no-room = (
    λ e. let q = room-only n (level_panics d) (leb n room) (sym given ∙ e) in (no_end q.0, leb-false n room q.1),
    λ (h : (SomeEnd NoText d.value → ⊥) × (room < n)). given ∙ rw (has-text h.0, lt-leb n room h.1),
  )

  -- and the text is written exactly if it is not
  pub level-written : (answer (level_panics d) (level_text d) room ≡ Ok (length (level_text d))) ↔ ((SomeEnd NoText d.value → ⊥) × (length (level_text d) ≤ room))
  unfolding pick
  level-written = (
    λ e. let q = done-only n (level_panics d) (leb n room) (sym given ∙ e) in (no_end q.0, leb-true n room q.1),
    λ (h : (SomeEnd NoText d.value → ⊥) × (n ≤ room)). given ∙ rw (has-text h.0, le-leb n room h.1),
  )

-- ---- what its text does not depend on

-- what is picked only without a season may differ with one
picked : {A : Type 0} (b : Bool) (x : A) {y z : A} → (b ≡ false → y ≡ z) → pick b x y ≡ pick b x z
unfolding pick
picked true x f = refl
picked false x f = f refl

module _ {d e : Datetime} (w : Alike d e) where
  same_parts : has_season d ≡ false → parts_of d ≡ parts_of e
  unfolding parts_of
  same_parts q = rw ((w.parts q).0, (w.parts q).1)

  same-behind : behind_text d ≡ behind_text e
  unfolding behind_text
  same-behind =
      picked (has_season d) (hyphen_part (season_number d.season)) (λ q. ap parts_text (same_parts q))
      ∙ ap (λ (s : Option Season). pick (is_season s) (hyphen_part (season_number s)) (parts_text (parts_of e))) w.seasons

  same_end : level_end d ≡ level_end e
  unfolding level_end
  same_end =
      ap (λ (y : ℤ). long_sign y ++ year_text y ++ behind_text d) w.years
      ∙ ap (λ (s : List ℕ). long_sign e.year ++ year_text e.year ++ s) same-behind

  same-panics : level_end_panics d ≡ level_end_panics e
  unfolding level_end_panics end_panics
  same-panics =
      picked (has_season d) false (λ q. ap too_large (same_parts q))
      ∙ ap (λ (s : Option Season). pick (is_season s) false (too_large (parts_of e))) w.seasons

same-value : {v w : DateValue} → AlikeValues v w → (level_value v ≡ level_value w) × (level_value_panics v ≡ level_value_panics w)
unfolding level_value level_value_panics
same-value (points h) = (same_end h, same-panics h)
same-value (afters h) = (rw (same_end h), same-panics h)
same-value (befores h) = (rw (same_end h), same-panics h)
same-value (betweens h g) = (rw (same_end h, same_end g), rw (same-panics h, same-panics g))

-- no time is seen, and beside a season no month and no day: neither in the text nor in whether there is one
pub no-time-seen : (d e : Date) → AlikeValues d.value e.value → d.uncertain ≡ e.uncertain → d.approximate ≡ e.approximate → (level_text d ≡ level_text e) × (level_panics d ≡ level_panics e)
unfolding level_text level_panics
no-time-seen d e w u a = let s = same-value w in (rw (s.0, u, a), s.1)

-- ---- short years without a season

short-end : (d : Datetime) → has_season d ≡ false → nat_abs d.year < 10000 → (level_end d ≡ datetime_text d) × (level_end_panics d ≡ end_panics d)
unfolding level_end long_sign behind_text datetime_text level_end_panics pick
short-end d q h = (
  ap (λ (b : Bool). pick (ltb (nat_abs d.year) 10000) [] (ascii "Y") ++ year_text d.year ++ pick b (hyphen_part (season_number d.season)) (parts_text (parts_of d))) q
      ∙ rw (lt-ltb (nat_abs d.year) 10000 h),
  ap (λ (b : Bool). pick b false (end_panics d)) q,
)

short-value : (v : DateValue) → any_season v ≡ false → EachEnd (λ (d : Datetime). nat_abs d.year < 10000) v → (level_value v ≡ value_text v) × (level_value_panics v ≡ value_panics v)
unfolding level_value level_value_panics value_text value_panics
short-value (At d) q h = short-end d q h
short-value (After d) q h = let s = short-end d q h in (rw s.0, s.1)
short-value (Before d) q h = let s = short-end d q h in (rw s.0, s.1)
short-value (Between a b) q h =
    let s = short-end a (first-false (has_season a) (has_season b) q) h.0 in
    let r = short-end b (second-false (has_season a) (has_season b) q) h.1 in
    (rw (s.0, r.0), rw (s.1, r.1))

-- without a season and with years of at most four digits it is the old writer
pub as-the-old-one : (d : Date) → any_season d.value ≡ false → EachEnd (λ (e : Datetime). nat_abs e.year < 10000) d.value → (level_text d ≡ date_text d) × (level_panics d ≡ panics d)
unfolding level_text date_text level_panics panics
as-the-old-one d q h = let s = short-value d.value q h in (rw s.0, s.1)

-- ---- its longest text

sign-most : (y : ℤ) → length (long_sign y) ≤ 1
unfolding long_sign
sign-most y = by-test (λ (l : List ℕ). length l ≤ 1) (ltb (nat_abs y) 10000) (λ _. omega arith) (λ _. omega arith)

-- a hyphen and two digits
season-most : (s : Option Season) → length (hyphen_part (season_number s)) ≤ 3
unfolding hyphen_part part_text decimal width digit_count count pick
season-most None = omega arith
season-most (Some Spring) = omega arith
season-most (Some Summer) = omega arith
season-most (Some Autumn) = omega arith
season-most (Some Winter) = omega arith

end-length : (d : Datetime) → length (level_end d) ≡ length (long_sign d.year) + length (year_text d.year) + length (behind_text d)
unfolding level_end
end-length d = length-append (long_sign d.year ++ year_text d.year) (behind_text d) ∙ let e = length-append (long_sign d.year) (year_text d.year) in omega arith

behind-by : (d : Datetime) → Stored d → length (behind_text d) ≤ 8
unfolding behind_text
behind-by d s =
    by-test (λ (l : List ℕ). length l ≤ 8) (has_season d) (λ _. omega (arith, season-most d.season)) (λ _. behind-most d s)

end-most : (d : Datetime) → Stored d → length (level_end d) ≤ 20
end-most d s = omega (arith, end-length d, sign-most d.year, year-most d.year s.year_in, behind-by d s)

season-behind : (d : Datetime) → has_season d ≡ true → length (behind_text d) ≤ 3
unfolding behind_text
season-behind d q = by-test (λ (l : List ℕ). length l ≤ 3) (has_season d) (λ _. season-most d.season) (λ e. absurd (false≢true (sym e ∙ q)))

none-behind : (d : Datetime) → has_season d ≡ false → d.month ≡ None → length (behind_text d) ≤ 0
unfolding behind_text parts_of month_parts parts_text
none-behind d q e =
    by-test (λ (l : List ℕ). length l ≤ 0) (has_season d) (λ e. absurd (false≢true (sym q ∙ e))) (λ _. rw e (omega arith))

end_short : (d : Datetime) → LevelNarrow d → length (level_end d) ≤ 11
end_short d (narrow q w) = rw (short-end d q w.year_in).0 (datetime-short d w)
end_short d (seasoned q h) = omega (arith, end-length d, sign-most d.year, year-short d.year h, season-behind d q)
end_short d (long q e h) =
    omega (arith, end-length d, sign-most d.year, year-by d.year 9 (omega arith) (few 9 (nat_abs d.year) (omega arith)), none-behind d q e)

-- the text of a date has at most 42 bytes
pub level-most : (d : Date) → Ends d.value → length (level_text d) ≤ 42
unfolding level_text level_value
level-most = joined_by level_end 20 (omega arith) end-most

-- and of one as its reader gives it at most 24
pub level-short : (d : Date) → EachEnd LevelNarrow d.value → length (level_text d) ≤ 24
unfolding level_text level_value
level-short = joined_by level_end 11 (omega arith) end_short

-- 42 bytes are reached, by a Date that has a text
pub level-reached : (length (level_text widest) ≡ 42) × (level_panics widest ≡ false)
unfolding level_text level_value level_end long_sign behind_text year_text minus decimal width digit_count count parts_of month_parts day_parts written_month written_day parts_text hyphen_part part_text mark_text level_panics level_value_panics level_end_panics end_panics too_large pick
level-reached = (refl, refl)
