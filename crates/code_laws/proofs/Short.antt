-- Two digits are a year near 2000.
-- Assumes nothing.
use mathlib.Core.Path.{◌≡◌, refl, sym, ◌∙◌, subst}
use mathlib.Core.Bool.{true, false}
use mathlib.Core.List.{List, [], ◌∷◌}
use Prim.Native.Nat.{ℕ, ◌/◌, ◌%◌, ◌<◌}
use native.Mathlib.Omega.{arith}
use borrow.Author.Tests.{ltb-true}
use lib.Dec.{ltb, lit<}
use lib.IntN.{ℤ, pos}
use lib.Signed.{lt_z, mag}
use lib.ListN.{length, get_or}
use Rattle.chars.specs.Pick.{pick}
use Rattle.chars.proofs.Cases.{by-test}
use Rattle.chars.proofs.Spelled.{entries}
use Rattle.scanner.proofs.Front.{from_start, from-behind}
use Rattle.numbers.specs.declared.Digits.TheVariants.{Two}
use Rattle.numbers.specs.Number.{admits, cursor}
use Rattle.numbers.proofs.Reading.{bytes, end, int-read}
use Rattle.std.specs.Prelude.{None, Ok}
use Rattle.points.specs.Point.{windowed, windowed_int, short_year as short_int, short_or, year_at, point}
use Rattle.points.proofs.Back.{two, two_digits, two-value, on-year, year-end}
use Rattle.dates.specs.declared.DateValue.TheVariants.{At}
use Rattle.dates.specs.Value.{datetime, date}
use Rattle.refusals.specs.declared.FileSpan.{FileSpan}
use Rattle.datefield.specs.Value.{moved, on_half, value}
use Rattle.roundtrip_laws.proofs.Bytes.{Each, each-bytes, each_of, InPoint, ValueText, point-digit, without-x, without-slash, first-none}
use Rattle.codes.specs.Points.{two_at}
use Rattle.codes.specs.Ported.{short_year}
use Rattle.code_laws.proofs.Points.{two-are}
use Rattle.code_laws.proofs.Typed.{untimed-typed}
use Rattle.code_laws.proofs.Says.{Says, Saying, value-says}

-- the year is of its type
near : (n : ℕ) → n < 100 → mag (windowed (pos n)) < 2147483648
unfolding windowed
near n h = by-test (λ (y : ℤ). mag y < 2147483648) (lt_z (pos n) (pos 50)) (λ _. omega arith) (λ _. omega arith)

module _ (n : ℕ) (h : n < 100) where
  abbrev text : List ℕ
  text = bytes (two n)

  in_point : Each InPoint text
  in_point = each-bytes point-digit (two n) (two_digits n)

  two-long : admits Two 2 ≡ true
  unfolding admits
  two-long = refl

  year_is : year_at text 0 ≡ Ok (windowed (pos n), cursor 2)
  unfolding year_at short_int windowed_int short_or
  year_is = rw (int-read (n / 10 % 10) ((n % 10) ∷ []) (two_digits n) end (from_start text) Two two-long, two-value n h)

  point_is : point text ≡ Ok (datetime (windowed (pos n)) None None None)
  point_is = on-year text year_is ∙ year-end (windowed (pos n)) (from-behind text (from_start text))

  value-is : (span : FileSpan) → value span text ≡ Ok (At (datetime (windowed (pos n)) None None None))
  unfolding value moved on_half pick
  value-is span = rw (first-none 0x58 (without-x in_point), first-none 0x2F (without-slash in_point), point_is)

  pub short_text : Says text (Ok (date (At (datetime (windowed (pos n)) None None None)) false false))
  short_text =
      let k : ValueText text = record { in_value = each_of (λ x (p : InPoint x). p.in_value) in_point; some = omega arith; short = omega arith } in
      value-says k value-is (untimed-typed (windowed (pos n)) None None (near n h) (lit< tt) (lit< tt))

pub short-says : (s : List ℕ) → length s ≡ 2 → Saying s (short_year s)
unfolding short_year
short-says s n =
    by-test (Saying s) (ltb (two_at s 0) 100)
    (λ t.
    let h = ltb-true (two_at s 0) 100 t in
    let e : bytes (two (two_at s 0)) ≡ s = sym (two-are (get_or s 0 0) (get_or s 1 0) h) ∙ entries 2 s n in
    subst (λ (l : List ℕ). Says l (Ok (date (At (datetime (windowed (pos (two_at s 0))) None None None)) false false))) e (short_text (two_at s 0) h))
    (λ t. tt)
