-- The written fields of an end, read as three fields, give that end.
-- Assumes nothing.
use mathlib.Core.Path.{◌≡◌, refl, sym, ap, ◌∙◌}
use mathlib.Core.Bool.{Bool, false}
use mathlib.Core.List.{List, [], ◌∷◌, ◌++◌, append-nil}
use Prim.Native.Nat.{ℕ, ◌+◌, ◌≤◌, ◌<◌}
use native.Mathlib.Omega.{arith}
use borrow.Author.Tests.{ne_eqb}
use lib.IntN.{ℤ, nat_abs}
use Rattle.chars.specs.Pick.{pick}
use Rattle.chunks.specs.Chunks.{one_chunk}
use Rattle.dates.specs.declared.Day.{Day}
use Rattle.dates.specs.declared.Month.{Month}
use Rattle.std.specs.Prelude.{Option, Some, None, Ok}
use Rattle.chunks.specs.Check.{checked, or_else}
use Rattle.chunks.specs.Format.{formatted}
use Rattle.chunks.proofs.Answers.{plain-as-is}
use Rattle.chunks.proofs.Plains.{plainly}
use Rattle.numbers.proofs.Reading.{bytes}
use Rattle.dates.specs.declared.Datetime.{Datetime}
use Rattle.dates.specs.Value.{datetime, from_datetime}
use Rattle.points.proofs.Back.{two, two_digits, year_bytes}
use Rattle.reading_laws.specs.Field.{on_clean}
use Rattle.reading_laws.specs.Fields.{parts_checked, fields_checked, moved_year, year_of, on_month, inside_day, month_text, month_alone, field_day, month_and_day, parts_of, dated, on_year, read_fields, three_fields}
use Rattle.writer.specs.Texts.{part_text, written_month, written_day, day_parts, month_parts, parts_of as written_parts}
use Rattle.writer.specs.Fields.{part_lines, end_lines}
use Rattle.dates.specs.Domain.{PartsIn, EndIn}
use Rattle.dates.proofs.Lengths.{length_most}
use Rattle.dates.proofs.Whole.{three-parts}
use Rattle.roundtrip_laws.specs.Fields.{has_month, has_day, month_value, day_value, line_if, lines_of, read_back}
use Rattle.roundtrip_laws.proofs.Bytes.{Piece, bytes-piece, point-clear, clear-text, clear-ascii}
use Rattle.roundtrip_laws.proofs.Texts.{decimal-is, year_is, year-piece}
use Rattle.roundtrip_laws.proofs.Fields.{year-field, month-field, no_day, day-field}

-- a list of one such chunk is clean, and formatted it is its bytes
list_read : {n : ℕ} (l : List ℕ) → Piece n l → n ≤ 4096 → (s e : ℕ) → (checked l (one_chunk l s e) ≡ (Ok tt)) × (formatted l (one_chunk l s e) ≡ l)
list_read l q h s e =
    let t = one_chunk l s e in
    let c = point-clear q.in_point in
    let p = plainly l t (record { four = refl; normal_kind = refl; whole = refl; small = omega arith; ascii = clear-ascii c }) in
    (p.clean, sym (plain-as-is l t {u = false} refl) ∙ p.text false ∙ clear-text false false c)

year-list : (y : ℤ) (s e : ℕ) → (checked (year_bytes y) (one_chunk (year_bytes y) s e) ≡ (Ok tt)) × (formatted (year_bytes y) (one_chunk (year_bytes y) s e) ≡ year_bytes y)
year-list y s e = list_read (year_bytes y) (year-piece y) (omega arith) s e

two-list : (n s e : ℕ) → (checked (bytes (two n)) (one_chunk (bytes (two n)) s e) ≡ (Ok tt)) × (formatted (bytes (two n)) (one_chunk (bytes (two n)) s e) ≡ bytes (two n))
two-list n s e = list_read (bytes (two n)) (bytes-piece (two n) (two_digits n)) (omega arith) s e

value-is : (n : ℕ) → n < 100 → part_text n ≡ bytes (two n)
unfolding part_text
value-is n h = decimal-is 2 n h

module _ (ys ye ms me ds de : ℕ) where
  parts-back : (y : ℤ) (m : Option Month) (d : Option Day) → nat_abs y < 10000 → PartsIn y m d → read_back (datetime y m d None) ys ye ms me ds de ≡ Ok (from_datetime (datetime y m d None))
  unfolding three_fields fields_checked parts_checked or_else on_clean read_fields on_year year_of moved_year dated parts_of month_alone month_text on_month inside_day month_and_day field_day pick
  parts-back y None None h p =
      let a = year-list y ys ye in
      rw (year_is y h, a.0, a.1, year-field y h)
  parts-back y None (Some d) h p = absurd p
  parts-back y (Some m) None h p =
      let a = year-list y ys ye in
      let n = m.0 + 1 in
      let b = two-list n ms me in
      rw (year_is y h, value-is n (omega arith), a.0, a.1, year-field y h, b.0, b.1, month-field m.0 p, no_day (bytes (two n)))
  parts-back y (Some m) (Some d) h p =
      let l = length_most m.0 y in
      let a = year-list y ys ye in
      let n = m.0 + 1 in
      let k = d.0 + 1 in
      let b = two-list n ms me in
      let c = two-list k ds de in
      rw (
        year_is y h,
        value-is n (omega (arith, p.0)),
        value-is k (omega (arith, p.1)),
        a.0,
        a.1,
        year-field y h,
        b.0,
        b.1,
        c.0,
        c.1,
        month-field m.0 p.0,
        day-field d.0 _ (omega (arith, p.1)),
      )

  -- the values of an end's lines, read as three fields, give the end
  pub fields_back : (d : Datetime) → EndIn d → read_back d ys ye ms me ds de ≡ Ok (from_datetime d)
  fields_back d w =
      parts-back d.year d.month d.day w.year_in w.parts_in
      ∙ ap (λ (a : Datetime). Ok (from_datetime a)) (three-parts d w)

part-lines : (end : Bool) (y : ℤ) (m : Option Month) (d : Option Day) → PartsIn y m d → part_lines end (month_parts m d) ≡ line_if (has_month m) end (109 ∷ 111 ∷ 110 ∷ 116 ∷ 104 ∷ 61 ∷ []) (month_value m) ++ line_if (has_day d) end (100 ∷ 97 ∷ 121 ∷ 61 ∷ []) (day_value d)
unfolding part_lines month_parts day_parts written_month written_day pick
part-lines end y None None p = refl
part-lines end y None (Some d) p = absurd p
part-lines end y (Some m) None p = rw (ne_eqb m.0 255 (λ (e : m.0 ≡ 255). omega arith)) (sym (append-nil _))
part-lines end y (Some m) (Some d) p =
    let l = length_most m.0 y in
    rw (ne_eqb m.0 255 (λ (e : m.0 ≡ 255). omega (arith, p.0)), ne_eqb d.0 255 (λ (e : d.0 ≡ 255). omega (arith, p.1)))

-- the lines that the writer gives an end are those with these values
pub lines_are : (end : Bool) (d : Datetime) → EndIn d → end_lines end d ≡ lines_of end d
unfolding end_lines written_parts
lines_are end d w = rw (part-lines end d.year d.month d.day w.parts_in)
