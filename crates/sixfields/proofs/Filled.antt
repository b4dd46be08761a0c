-- The year list of three fields that are read has a text: no end that could be read is taken for none.
-- Assumes nothing.
use mathlib.Core.Path.{◌≡◌, refl}
use mathlib.Core.Bool.{Bool, true, false}
use mathlib.Core.List.{List}
use Prim.Native.Nat.{ℕ, ◌≤◌}
use native.Mathlib.Omega.{arith}
use borrow.Author.Tests.{leb-true}
use lib.IntN.{ℤ}
use lib.ListN.{length}
use Rattle.chars.specs.Pick.{pick}
use Rattle.scanner.specs.declared.Class.{Class}
use Rattle.scanner.specs.declared.Class.TheVariants.{Whitespace, AsciiDigit, Is}
use Rattle.std.specs.Prelude.{None, Result, Ok, Err}
use Rattle.scanner.specs.Scan.{eat_while, eat_if}
use Rattle.scanner.proofs.Parts.{part-empty}
use Rattle.scanner.proofs.Laws.{match-end, stop}
use Rattle.refusals.specs.declared.Kind.TheVariants.{InvalidFormat}
use Rattle.refusals.specs.declared.Refusal.{Refusal}
use Rattle.refusals.specs.Offset.{text_refusal}
use Rattle.dates.specs.declared.Date.{Date}
use Rattle.fields.specs.Year.{on_past, year_digits, year_from, behind_sign, year_at, get_year}
use Rattle.datefield.specs.Text.{is_blank}
use Rattle.reading_laws.specs.Field.{on_clean}
use Rattle.chunks.specs.Lent.{Lent, Three, text_of}
use Rattle.reading_laws.specs.Fields.{fields_checked, moved_year, year_of, parts_of, dated, on_year, read_fields, three_fields}
use Rattle.reader.proofs.Lists.{year-checked}
use Rattle.sixfields.specs.Six.{blank, judged, end_year_of}

-- what is refused is not accepted
not-both : {e : Refusal} {d : Date} → Err e ≡ Ok d → ⊥
not-both h = let z : ◌≡◌ {A = ℕ} 0 1 = cc in omega arith

-- a text of white space alone has no year
past-kept : (k : Class) (s : List ℕ) (i : ℕ) → length s ≤ i → eat_if k s i ≡ None
unfolding eat_if pick
past-kept k s i h = rw (match-end k s i h)

past-year : (s : List ℕ) (i : ℕ) → length s ≤ i → year_at s i ≡ Err (text_refusal InvalidFormat i i)
unfolding year_at on_past behind_sign year_from year_digits pick
past-year s i h =
    rw (
      past-kept (Is 0x2D) s i h,
      past-kept (Is 0x2B) s i h,
      stop Whitespace s i (match-end Whitespace s i h),
      stop AsciiDigit s i (match-end AsciiDigit s i h),
      part-empty s i,
    )

blank-year : (s : List ℕ) → is_blank s ≡ true → get_year s ≡ Err (text_refusal InvalidFormat (eat_while Whitespace s 0) (eat_while Whitespace s 0))
unfolding is_blank get_year
blank-year s e = past-year s (eat_while Whitespace s 0) (leb-true (length s) (eat_while Whitespace s 0) e)

blank-refused : (l : Lent) (go : ℤ → Result Date Refusal) {d : Date} → blank l ≡ true → on_year (year_of l) go ≡ Ok d → ⊥
unfolding blank year_of moved_year on_year
blank-refused l go e h = not-both (rw (blank-year (text_of l) e) at h)

-- what was accepted of a list had no fault
clean-read : (k : Result (Unit {0}) Refusal) {r : Result Date Refusal} {d : Date} → on_clean k r ≡ Ok d → (k ≡ (Ok tt)) × (r ≡ Ok d)
unfolding on_clean
clean-read (Ok tt) h = (refl, h)
clean-read (Err e) h = absurd (not-both h)

module _ (t : Three) {d : Date} (e : three_fields t ≡ Ok d) where
  both : (fields_checked t ≡ (Ok tt)) × (read_fields t ≡ Ok d)
  unfolding three_fields
  both = clean-read _ e

  by-blank : (w : Bool) → blank t.year ≡ w → judged (Ok tt) w ≡ (Ok true)
  unfolding read_fields judged pick
  by-blank true h = absurd (blank-refused t.year (λ y. dated y (parts_of t.month t.day)) h both.1)
  by-blank false h = refl

  -- the year list has a text
  pub filled : end_year_of t.year ≡ (Ok true)
  unfolding end_year_of
  filled = rw (year-checked t both.0) (by-blank (blank t.year) refl)
