-- A written text behind formatting, trimming and its mark: nothing is lost and nothing is added.
-- Assumes nothing.
use mathlib.Core.Path.{◌≡◌, refl, sym, ◌∙◌}
use mathlib.Core.Bool.{Bool, true, false}
use Prim.Native.Nat.{ℕ, ◌≤◌}
use native.Mathlib.Omega.{arith}
use lib.ListN.{length, length-append}
use Rattle.refusals.specs.declared.FileSpan.{FileSpan}
use Rattle.refusals.specs.Refusal.{file_span}
use Rattle.chunks.specs.Chunks.{chunks_of, last_end, span_of, one_chunk}
use Rattle.chunks.specs.Answer.{text_of}
use Rattle.chunks.proofs.Plains.{Plainly, plainly}
use Rattle.dates.specs.declared.Date.{Date}
use Rattle.datefield.specs.Value.{value, marked, parse_text}
use Rattle.reading_laws.specs.Field.{parsed}
use Rattle.reading_laws.proofs.Entries.{parsed-clean}
use Rattle.strict.specs.Grammar.{Mark}
use Rattle.writer.specs.Texts.{value_text, date_text}
use Rattle.puts.specs.Marks.{mark_text}
use Rattle.roundtrip_laws.proofs.Bytes.{Clear, ValueText, clear-text, clear-ascii}
use Rattle.roundtrip_laws.proofs.Trims.{mark-short, text-clear, text-marked}
use Rattle.roundtrip_laws.proofs.Derived.{mark-derived}

module _ (d : Date) (k : ValueText (value_text d.value)) where
  mark : Mark (mark_text d.uncertain d.approximate) d.uncertain d.approximate
  mark = mark-derived d.uncertain d.approximate

  clear : Clear (date_text d)
  unfolding date_text
  clear = text-clear k mark

  text-short : length (date_text d) ≤ 4096
  unfolding date_text
  text-short =
      let m = mark-short mark in
      let e = length-append (value_text d.value) (mark_text d.uncertain d.approximate) in
      omega (arith, k.short)

  marks-read : (span : FileSpan) → parse_text span (date_text d) ≡ marked d.uncertain d.approximate (value span (value_text d.value))
  unfolding date_text
  marks-read span = text-marked span k mark

  -- such a list is a plain one
  pub plain-list : (start end : ℕ) → Plainly (date_text d) (one_chunk (date_text d) start end)
  plain-list start end =
      let b = date_text d in
      plainly b (one_chunk b start end) (record { four = refl; normal_kind = refl; whole = refl; small = text-short; ascii = clear-ascii clear })

  -- and its formatted text is its bytes, in upper case or not
  pub same_text : (u : Bool) (start end : ℕ) → date_text d ≡ text_of u (date_text d) (one_chunk (date_text d) start end)
  same_text u start end = sym ((plain-list start end).text u ∙ clear-text u false clear)

  -- the written text, read, is what the text without its mark is read as, with that mark
  pub parsed-marked : (start end : ℕ) → parsed (date_text d) (one_chunk (date_text d) start end) ≡ marked d.uncertain d.approximate (value (file_span start end) (value_text d.value))
  unfolding chunks_of span_of last_end
  parsed-marked start end =
      let b = date_text d in
      let t = one_chunk b start end in
      sym (parsed-clean b t (plain-list start end).clean (same_text true start end)) ∙ marks-read (file_span start end)
