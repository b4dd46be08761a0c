-- A text with times as one Normal chunk anywhere in a file, read by the ported reader and by the strict one. By derivations of points
-- alone: no text here has an X. Assumes nothing.
use mathlib.Core.Path.{◌≡◌, refl, sym, ap, ◌∙◌, subst}
use mathlib.Core.Bool.{Bool, true, false}
use mathlib.Core.List.{List, [], ◌∷◌, ◌++◌, append_assoc}
use Prim.Native.Nat.{ℕ, ◌≤◌}
use native.Mathlib.Omega.{arith}
use lib.ListN.{length, length-append}
use Rattle.refusals.specs.declared.FileSpan.{FileSpan}
use Rattle.refusals.specs.Refusal.{file_span}
use Rattle.chunks.specs.Chunks.{chunks_of, last_end, span_of, one_chunk}
use Rattle.chunks.specs.Answer.{text_of}
use Rattle.chunks.proofs.Plains.{Plainly, plainly}
use Rattle.dates.specs.declared.DateValue.{DateValue}
use Rattle.dates.specs.declared.DateValue.TheVariants.{At, After, Before, Between}
use Rattle.dates.specs.declared.Date.{Date}
use Rattle.std.specs.Prelude.{Ok}
use Rattle.datefield.specs.Value.{moved, on_half, value, marked}
use Rattle.reading_laws.specs.Field.{parsed, strictly, parsed_strict}
use Rattle.reading_laws.proofs.Entries.{parsed-clean, strict-clean}
use Rattle.strict.specs.Grammar.{Mark}
use Rattle.strict.proofs.Exact.{exact}
use Rattle.roundtrip_laws.proofs.Bytes.{Clear, ValueText, alone-text, between-text, after_text, before_text, clear-text, clear-ascii}
use Rattle.roundtrip_laws.proofs.Points.{point-read, point-text}
use Rattle.roundtrip_laws.proofs.Values.{alone-value, between-value, after-value, before-value}
use Rattle.roundtrip_laws.proofs.Trims.{mark-short, text-clear, text-marked}
use Rattle.roundtrip_laws.proofs.Derived.{mark-derived}
use Rattle.puts.specs.Marks.{mark_text}
use Rattle.timed.specs.Texts.{end_text, value_text, timed_text}
use Rattle.timed.specs.Domain.{InTimed}
use Rattle.timed.proofs.Derived.{end-derived, date-derived}

-- a value's text and a mark behind it, as one Normal chunk
module _ {s t : List ℕ} {u a : Bool} (k : ValueText s) (m : Mark t u a) where
  clear : Clear (s ++ t)
  clear = text-clear k m

  short : length (s ++ t) ≤ 4096
  short = omega (arith, mark-short m, length-append s t, k.short)

  -- such a list is a plain one
  plain-list : (start end : ℕ) → Plainly (s ++ t) (one_chunk (s ++ t) start end)
  plain-list start end =
      plainly (s ++ t) (one_chunk (s ++ t) start end) (record { four = refl; normal_kind = refl; whole = refl; small = short; ascii = clear-ascii clear })

  -- and its formatted text is its bytes, in upper case or not
  same_text : (c : Bool) (start end : ℕ) → s ++ t ≡ text_of c (s ++ t) (one_chunk (s ++ t) start end)
  same_text c start end = sym ((plain-list start end).text c ∙ clear-text c false clear)

  -- the ported reader reads the value, and the mark
  ported : {v : DateValue} (start end : ℕ) → value (file_span start end) s ≡ Ok v → parsed (s ++ t) (one_chunk (s ++ t) start end) ≡ Ok (record { value = v; uncertain = u; approximate = a })
  unfolding chunks_of span_of last_end marked
  ported start end e =
      sym (parsed-clean (s ++ t) (one_chunk (s ++ t) start end) (plain-list start end).clean (same_text true start end))
      ∙ text-marked (file_span start end) k m
      ∙ rw e

-- the value of a Date of the domain: what bytes stand in its text, and what it is read as
value-text : (v : DateValue) → InTimed v → ValueText (value_text v)
unfolding value_text
value-text (At a) w = alone-text (point-text (end-derived a w))
value-text (After a) w = after_text (point-text (end-derived a w))
value-text (Before a) w = before_text (point-text (end-derived a w))
value-text (Between a b) w =
    subst ValueText (sym (append_assoc (end_text a) (47 ∷ []) (end_text b))) (between-text (point-text (end-derived a w.0)) (point-text (end-derived b w.1)))

value_read : (span : FileSpan) (v : DateValue) → InTimed v → value span (value_text v) ≡ Ok v
unfolding value_text moved on_half
value_read span (At a) w = let p = end-derived a w in rw (alone-value span (point-text p), point-read p)
value_read span (After a) w = let p = end-derived a w in rw (after-value span (point-text p), point-read p)
value_read span (Before a) w = let p = end-derived a w in rw (before-value span (point-text p), point-read p)
value_read span (Between a b) w =
    let p = end-derived a w.0 in
    let q = end-derived b w.1 in
    ap (value span) (append_assoc (end_text a) (47 ∷ []) (end_text b)) ∙ rw (between-value span (point-text p) (point-text q), point-read p, point-read q)

-- A Date of the domain, from its text with times.
module _ (d : Date) (w : InTimed d.value) where
  mark : Mark (mark_text d.uncertain d.approximate) d.uncertain d.approximate
  mark = mark-derived d.uncertain d.approximate

  pub ported-back : (start end : ℕ) → parsed (timed_text d) (one_chunk (timed_text d) start end) ≡ Ok d
  unfolding timed_text
  ported-back start end = ported (value-text d.value w) mark start end (value_read (file_span start end) d.value w)

  pub strict-back : (start end : ℕ) → parsed_strict (timed_text d) (one_chunk (timed_text d) start end) ≡ Ok d
  unfolding timed_text strictly
  strict-back start end =
      let k = value-text d.value w in
      let b = timed_text d in
      let t = one_chunk b start end in
      sym (strict-clean b t (plain-list k mark start end).clean (same_text k mark false start end)) ∙ ap strictly ((exact b d).1 (date-derived d w))
