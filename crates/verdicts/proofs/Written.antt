-- The Date of a verdict has a text that is written: the writer knows no season in it and does not panic, and the text is short.
-- Assumes nothing.
use mathlib.Core.Path.{◌≡◌, refl, subst, ◌∙◌}
use mathlib.Core.Bool.{Bool, true, false}
use mathlib.Core.List.{List}
use Prim.Native.Nat.{ℕ, ◌≤◌}
use native.Mathlib.Omega.{arith}
use borrow.Author.Tests.{ne_eqb}
use lib.ListN.{length}
use Rattle.chars.specs.Pick.{pick}
use Rattle.chars.proofs.Cases.{by-test}
use Rattle.dates.specs.declared.Day.{Day}
use Rattle.dates.specs.declared.Month.{Month}
use Rattle.refusals.specs.declared.Refusal.{Refusal}
use Rattle.std.specs.Prelude.{Option, Some, None, Result, Ok, Err}
use Rattle.dates.specs.declared.Datetime.{Datetime}
use Rattle.dates.specs.declared.DateValue.{DateValue}
use Rattle.dates.specs.declared.DateValue.TheVariants.{At, After, Before, Between}
use Rattle.dates.specs.declared.Date.{Date}
use Rattle.dates.specs.Value.{any_season}
use Rattle.dates.proofs.Ends.{no_end}
use Rattle.chunks.specs.Lent.{Three, check_of}
use Rattle.puts.specs.Answers.{measured}
use Rattle.writer.specs.Answers.{date_measured}
use Rattle.writer.specs.Sizes.{MonthUnder, DayUnder, Narrow, NarrowEnds}
use Rattle.writer.specs.Texts.{day_parts, month_parts, parts_of, too_large, end_panics, value_panics, panics, date_text}
use Rattle.writer.proofs.Bounds.{text-short}
use Rattle.writer.proofs.Levels.{else-as-before}
use Rattle.reading_laws.specs.Fields.{three_fields}
use Rattle.roundtrip_laws.proofs.Narrow.{parsed-narrow, three-narrow}
use Rattle.roundtrip_laws.proofs.Seasons.{ported-none}
use Rattle.sixfields.specs.Six.{blank, judged, end_year_of, single, unmarked, on_three, between, on_end_year, with_end, six_fields}
use Rattle.sixfields.proofs.Seasons.{six-none}
use Rattle.verdicts.specs.declared.Verdict.TheVariants.{NotStrict, ShortYear}
use Rattle.verdicts.specs.Dates.{date_verdict}
use Rattle.verdicts.specs.Plain.{text_if, written_text}
use Rattle.verdicts.specs.Fields.{Cells, six_read, six_verdict}
use Rattle.verdicts.proofs.Exactly.{not-strict, short-year, six-not-strict}

-- ---- what is narrow has a text

parts-calm : (m : Option Month) (d : Option Day) → MonthUnder 99 m → DayUnder 99 d → too_large (month_parts m d) ≡ false
unfolding month_parts day_parts too_large pick
parts-calm None d h k = refl
parts-calm (Some m) None h k = rw (ne_eqb m.0 255 (λ (e : m.0 ≡ 255). omega arith))
parts-calm (Some m) (Some d) h k =
    rw (ne_eqb m.0 255 (λ (e : m.0 ≡ 255). omega arith), ne_eqb d.0 255 (λ (e : d.0 ≡ 255). omega arith))

end-calm : (d : Datetime) → Narrow d → end_panics d ≡ false
unfolding end_panics parts_of
end-calm d w = parts-calm d.month d.day w.month_in w.day_in

calm : (d : Date) → NarrowEnds d.value → panics d ≡ false
unfolding panics value_panics
calm d w = no_end end-calm d.value w

-- the text of a Date is written
pub record HasText (d : Date) : Type 0 where
  -- no end has a season
  pub unseasoned : any_season d.value ≡ false
  -- the writer does not panic
  pub calm : panics d ≡ false
  -- the text is short
  pub short : length (date_text d) ≤ 24
  -- the writer measures it
  pub measures : date_measured d (date_text d) ≡ Ok (length (date_text d))

has-text : (d : Date) → any_season d.value ≡ false → NarrowEnds d.value → HasText d
unfolding measured pick
has-text d e w =
    record {
      unseasoned = e;
      calm = calm d w;
      short = text-short d w;
      measures = (else-as-before d (date_text d) e).0 ∙ rw (calm d w);
    }

-- ---- six fields are narrow

abbrev NarrowRead : Result Date Refusal → Type 0
NarrowRead (Ok d) = NarrowEnds d.value
NarrowRead (Err e) = Unit {0}

single-narrow : (v : DateValue) → NarrowEnds v → Narrow (single v)
unfolding single
single-narrow (At a) w = w
single-narrow (After a) w = w
single-narrow (Before a) w = w
single-narrow (Between a b) w = w.0

on-three : (r : Result Date Refusal) → ((d : Date) → r ≡ Ok d → NarrowEnds d.value) → (go : Datetime → Result Date Refusal) → ((a : Datetime) → Narrow a → NarrowRead (go a)) → NarrowRead (on_three r go)
unfolding on_three
on-three (Ok d) w go f = f (single d.value) (single-narrow d.value (w d refl))
on-three (Err e) w go f = tt

on-end : (c : Result (Unit {0}) Refusal) (white : Bool) (opened closed : Result Date Refusal) → NarrowRead opened → NarrowRead closed → NarrowRead (on_end_year (judged c white) opened closed)
unfolding on_end_year judged pick
on-end (Ok tt) true opened closed h k = h
on-end (Ok tt) false opened closed h k = k
on-end (Err e) white opened closed h k = tt

with-end : (has : Bool) (end : Three) (a : Datetime) → Narrow a → NarrowRead (with_end a has end)
unfolding with_end end_year_of between unmarked
with-end has end a w =
    by-test NarrowRead has
    (λ _. on-end (check_of end.year) (blank end.year) _ _ w (on-three (three_fields end) (λ d e. three-narrow end e) _ λ b v. (w, v)))
    (λ _. w)

six-narrow : (start : Three) (has : Bool) (end : Three) {d : Date} → six_fields start has end ≡ Ok d → NarrowEnds d.value
unfolding six_fields
six-narrow start has end e = subst NarrowRead e (on-three (three_fields start) (λ d h. three-narrow start h) _ λ a w. with-end has end a w)

-- ---- what is said with a Date

-- Of a cell that is not strict,
pub date-has-text : (s : List ℕ) (d : Date) → date_verdict s ≡ NotStrict d → HasText d
date-has-text s d e =
    let p = ((not-strict s d).0 e).0 in
    has-text d (ported-none _ _ p) (parsed-narrow _ _ p)

-- of six cells that are read,
six-text : (start end : Cells) (d : Date) → six_read start end ≡ Ok d → HasText d
unfolding six_read
six-text start end d p = has-text d (six-none _ _ _ p) (six-narrow _ _ _ p)

-- be a year short
pub six-has-text : (start end : Cells) (d : Date) → six_verdict start end ≡ ShortYear d → HasText d
six-has-text start end d e = six-text start end d ((short-year start end d).0 e).read

-- or something not as it should be.
pub six-other-text : (start end : Cells) (d : Date) → six_verdict start end ≡ NotStrict d → HasText d
six-other-text start end d e = six-text start end d ((six-not-strict start end d).0 e).0.read

-- The text that is said is short.
pub said-short : {d : Date} → HasText d → length (written_text d) ≤ 40
unfolding written_text text_if
said-short h = let g = h.short in rw h.measures (omega arith)
