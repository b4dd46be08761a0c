-- Words that move with a list's span, and that what the ported reader says at once can be moved so.
-- Assumes nothing.
use mathlib.Core.Path.{◌≡◌, refl, subst}
use mathlib.Core.Bool.{true, ◌&&◌, ◌||◌}
use mathlib.Core.List.{List}
use Prim.Native.Nat.{ℕ, ◌+◌, ◌-◌, ◌≤◌, ◌<◌}
use native.Mathlib.Omega.{arith}
use lib.Dec.{eqb, ltb, leb}
use lib.IntN.{pos}
use lib.ListN.{length, get_or, take, drop}
use borrow.Author.Tests.{lt-ltb, le-ltb}
use Rattle.chars.specs.Pick.{pick}
use Rattle.chars.proofs.Cases.{by-test}
use Rattle.dates.specs.declared.Datetime.{Datetime}
use Rattle.dates.specs.Calendar.{month_length}
use Rattle.refusals.specs.declared.Kind.{Kind}
use Rattle.refusals.specs.declared.Kind.TheVariants.{InvalidFormat, MonthOutOfRange, DayOutOfRange}
use Rattle.dates.specs.declared.Date.{Date}
use Rattle.refusals.specs.declared.Refusal.{Refusal}
use Rattle.std.specs.Prelude.{Result, Ok, Err, Option, None, Some}
use Rattle.refusals.specs.Refusal.{has_place, refusal}
use Rattle.refusals.proofs.Sums.{sum_fits}
use Rattle.codes.specs.Words.{words_of}
use Rattle.codes.specs.Points.{two_at, year_of, part_at, on_some, point_of}
use Rattle.codes.specs.Texts.{is_slash, slash_of}
use Rattle.codes.specs.Ported.{refused_at, are_word_bytes, no_year, short_year, is_unknown, years_of, months_of, days_of, bad_parts, is_day_form, bad_day, day_or_days, bad_range, ported, moved_by, moved_words}
use Rattle.codes.proofs.Laws.{accepted-last, refused-last}

-- what can be moved: a Date, or a refusal that names a place which becomes not too large
abbrev pub Movable : Result Date Refusal → Type 0
Movable (Ok d) = Unit {0}
Movable (Err e) = (has_place e.kind ≡ true) × ((e.place.0 < 0x8000000000000000) × (e.place.1 < 0x8000000000000000))

-- a Date stays, and the place of a refusal moves
pub moved-is : (start : ℕ) → start < 0x8000000000000000 → (x : Result Date Refusal) → Movable x → moved_words start (words_of x) ≡ words_of (moved_by start x)
unfolding moved_words moved_by refusal pick
moved-is start l (Ok d) m = rw (lt-ltb (words_of (Ok d)).last 4294967296 (accepted-last d))
moved-is start l (Err r) (m, (p, q)) =
    rw (
      le-ltb (words_of (Err r)).last 4294967296 (refused-last r),
      sum_fits r.place.0 start (omega arith),
      sum_fits r.place.1 start (omega arith),
      m,
    )

-- what is said at once can be moved
abbrev Can : Option (Result Date Refusal) → Type 0
Can None = Unit {0}
Can (Some r) = Movable r

near : (k : Kind) (a b : ℕ) → has_place k ≡ true → a < 0x8000000000000000 → b < 0x8000000000000000 → Movable (refused_at k a b)
unfolding refusal pick
near k a b h p q = rw h (refl, (p, q))

module _ (at : ℕ) (l : at ≤ 11) where
  can-parts : (y m d : ℕ) → Can (bad_parts at y m d)
  unfolding bad_parts
  can-parts y m d =
      by-test Can (eqb m 0 || ltb 12 m) (λ _. near MonthOutOfRange (at + 5) (at + 7) refl (omega arith) (omega arith))
      (λ _.
      by-test Can (eqb d 0 || ltb 31 d) (λ _. near DayOutOfRange (at + 8) (at + 10) refl (omega arith) (omega arith))
      (λ _. by-test Can (ltb (d - 1) (month_length (m - 1) (pos y))) (λ _. tt) (λ _. near DayOutOfRange at (at + 10) refl (omega arith) (omega arith))))

  can-day : (s : List ℕ) → Can (bad_day at s)
  unfolding bad_day
  can-day s = by-test Can (is_day_form s) (λ _. can-parts (year_of s) (two_at s 5) (two_at s 8)) (λ _. tt)

slash-most : (s : List ℕ) → slash_of s ≤ 10
unfolding slash_of
slash-most s =
    by-test (λ (n : ℕ). n ≤ 10) (is_slash s 4) (λ _. omega arith)
    (λ _. by-test (λ (n : ℕ). n ≤ 10) (is_slash s 7) (λ _. omega arith) (λ _. by-test (λ (n : ℕ). n ≤ 10) (is_slash s 2) (λ _. omega arith) (λ _. omega arith)))

can-range : (s : List ℕ) (k : ℕ) → k ≤ 10 → Can (bad_range s k)
unfolding bad_range on_some
can-range s k h = by-test Can (is_slash s k && eqb (length s) (k + 11)) (λ _. go (point_of (take k s))) (λ _. tt)
  where
    go : (x : Option Datetime) → Can (on_some x λ d. bad_day (k + 1) (drop (k + 1) s))
    go None = tt
    go (Some d) = can-day (k + 1) (omega arith) (drop (k + 1) s)

can : (s : List ℕ) → Can (ported s)
unfolding ported no_year short_year years_of months_of day_or_days days_of
can s =
    by-test Can (eqb (length s) 0) (λ _. near InvalidFormat 0 0 refl (omega arith) (omega arith))
    (λ _.
    by-test Can (leb 58 (get_or s 0 0))
    (λ _. by-test Can (leb (length s) 4096 && are_word_bytes s) (λ _. near InvalidFormat 0 0 refl (omega arith) (omega arith)) (λ _. tt))
    (λ _.
    by-test Can (eqb (length s) 2) (λ _. by-test Can (ltb (two_at s 0) 100) (λ _. tt) (λ _. tt))
    (λ _.
    by-test Can (eqb (length s) 4) (λ _. by-test Can (is_unknown s 2 && ltb (two_at s 0) 100) (λ _. tt) (λ _. tt))
    (λ _.
    by-test Can (eqb (length s) 7)
    (λ _. by-test Can (is_unknown s 5 && (ltb (year_of s) 10000 && eqb (get_or s 4 0) 45)) (λ _. tt) (λ _. tt))
    (λ _.
    by-test Can (eqb (length s) 10)
    (λ _.
    by-test Can (is_unknown s 8)
    (λ _. by-test Can (ltb (year_of s) 10000 && (ltb (part_at s 4) 12 && eqb (get_or s 7 0) 45)) (λ _. tt) (λ _. tt))
    (λ _. can-day 0 (omega arith) s))
    (λ _. can-range s (slash_of s) (slash-most s)))))))

pub ported-movable : (s : List ℕ) {r : Result Date Refusal} → ported s ≡ Some r → Movable r
ported-movable s e = subst Can e (can s)
