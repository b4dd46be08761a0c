-- A Date of the domain is stored by the writer wherever there is room for its text, and what is stored is read back.
-- Assumes nothing.
use mathlib.Core.Path.{◌≡◌, refl, sym, ap, ◌∙◌, subst}
use mathlib.Core.Bool.{Bool, true, false}
use mathlib.Core.List.{List}
use Prim.Native.Nat.{ℕ, ◌≤◌}
use native.Mathlib.Omega.{arith}
use borrow.Author.Tests.{ne_eqb, le-leb}
use lib.IntN.{ℤ}
use lib.ListN.{length, take, drop}
use lib.Seq.{take-append_seam}
use Rattle.chars.specs.Pick.{pick}
use Rattle.dates.specs.declared.Day.{Day}
use Rattle.dates.specs.declared.Month.{Month}
use Rattle.refusals.specs.declared.Refusal.{Refusal}
use Rattle.std.specs.Prelude.{Option, Some, None, Result, Ok}
use Rattle.dates.specs.declared.Datetime.{Datetime}
use Rattle.dates.specs.declared.DateValue.{DateValue}
use Rattle.dates.specs.declared.DateValue.TheVariants.{At, After, Before, Between}
use Rattle.dates.specs.declared.Date.{Date}
use Rattle.dates.specs.Domain.{PartsIn, EndIn}
use Rattle.dates.specs.Value.{is_season, has_season, any_season}
use Rattle.dates.proofs.Lengths.{length_most}
use Rattle.dates.proofs.Ends.{no_end}
use Rattle.puts.specs.Answers.{measured, decided, answer, left}
use Rattle.writer.specs.Texts.{day_parts, month_parts, parts_of, too_large, end_panics, value_panics, panics, date_text}
use Rattle.writer.specs.Fields.{end_lines, value_lines, fields_text}
use Rattle.writer.specs.Answers.{date_measured, date_answer, date_afterwards}
use Rattle.writer.proofs.Levels.{else-as-before}
use Rattle.roundtrip_laws.specs.Domain.{InDomain}
use Rattle.roundtrip_laws.specs.Stored.{TextBack, EndBack, FieldsBack, StoredAs, TextStored, FieldsStored}
use Rattle.roundtrip_laws.proofs.Theorems.{date-back, strict-back, lines_are, fields_back}

-- a month and a day of the calendar have a text
pub calendar-written : (y : ℤ) (m : Option Month) (d : Option Day) → PartsIn y m d → too_large (month_parts m d) ≡ false
unfolding month_parts day_parts too_large pick
calendar-written y None None w = refl
calendar-written y None (Some d) w = absurd w
calendar-written y (Some m) None w = rw (ne_eqb m.0 255 (λ (e : m.0 ≡ 255). omega arith))
calendar-written y (Some m) (Some d) w =
    rw (ne_eqb m.0 255 (λ (e : m.0 ≡ 255). omega (arith, w.0)), ne_eqb d.0 255 (λ (e : d.0 ≡ 255). omega (arith, w.1, length_most m.0 y)))

end-written : (d : Datetime) → EndIn d → end_panics d ≡ false
unfolding end_panics parts_of
end-written d w = calendar-written d.year d.month d.day w.parts_in

value_written : (v : DateValue) → InDomain v → value_panics v ≡ false
unfolding value_panics
value_written v w = no_end end-written v w

end-plain : (d : Datetime) → EndIn d → has_season d ≡ false
end-plain d w = ap is_season w.unseasoned

value-plain : (v : DateValue) → InDomain v → any_season v ≡ false
value-plain v w = no_end end-plain v w

-- no Date of the domain is refused for what it is: none has a season, and none panics
pub has-text : (d : Date) → InDomain d.value → (any_season d.value ≡ false) × (panics d ≡ false)
unfolding panics
has-text d w = (value-plain d.value w, value_written d.value w)

-- so with room for a text of it, that text is stored
module _ (d : Date) (w : InDomain d.value) (t out : List ℕ) (h : length t ≤ length out) where
  measured-so : date_measured d t ≡ Ok (length t)
  unfolding measured pick
  measured-so = (else-as-before d t (has-text d w).0).0 ∙ rw (has-text d w).1

  answered-so : date_answer d t (length out) ≡ Ok (length t)
  unfolding answer measured decided pick
  answered-so = (else-as-before d t (has-text d w).0).1 (length out) ∙ rw ((has-text d w).1, le-leb (length t) (length out) h)

  front-so : take (length t) (date_afterwards d t out) ≡ t
  unfolding date_afterwards left
  front-so = ap (λ (a : Result ℕ Refusal). take (length t) (left a t out)) answered-so ∙ take-append_seam t (drop (length t) out)

  stored : (Back : List ℕ → Type 0) → Back t → StoredAs d t out Back
  stored Back b = record { measures = measured-so; answers = answered-so; back = subst Back (sym front-so) b }

-- the text, which both readers read as the Date
pub stored_back : (d : Date) → InDomain d.value → (out : List ℕ) → length (date_text d) ≤ length out → TextStored d out
stored_back d w out h = stored d w (date_text d) out h (TextBack d) (record { ported = date-back d w; strictly = strict-back d w })

-- the lines of an end, whose values give it
end_back : (end : Bool) (a : Datetime) → EndIn a → EndBack end a (end_lines end a)
end_back end a w = record { lines = lines_are end a w; values = λ ys ye ms me ds de. fields_back ys ye ms me ds de a w }

value-fields : (v : DateValue) → InDomain v → FieldsBack v (value_lines v)
unfolding value_lines
value-fields (At a) w = end_back false a w
value-fields (After a) w = end_back false a w
value-fields (Before a) w = end_back false a w
value-fields (Between a b) w = (end_lines false a, end_lines true b, refl, end_back false a w.0, end_back true b w.1)

-- the fields, whose values give the Date's ends
pub stored-fields : (d : Date) → InDomain d.value → (out : List ℕ) → length (fields_text d) ≤ length out → FieldsStored d out
unfolding fields_text
stored-fields d w out h = stored d w (value_lines d.value) out h (FieldsBack d.value) (value-fields d.value w)
