-- A frame with one Normal chunk whose text is a usual one: what is read of it, and so its answer. Assumes nothing.
use mathlib.Core.Path.{◌≡◌, refl, sym, ap, ◌∙◌}
use mathlib.Core.Bool.{true, false, false≢true}
use mathlib.Core.List.{List}
use Prim.Native.Nat.{ℕ, ◌-◌, ◌≤◌}
use native.Mathlib.Omega.{arith}
use lib.Dec.{eqb, leb}
use lib.ListN.{length, take, drop, length-drop}
use lib.Seq.{length-take-le}
use borrow.Author.Tests.{leb-true, eqb-true, eq-eqb}
use Rattle.chars.specs.Pick.{pick}
use Rattle.chars.proofs.Cases.{and-true}
use Rattle.dates.specs.declared.Date.{Date}
use Rattle.std.specs.Prelude.{Ok, Some}
use Rattle.reading_laws.specs.Field.{parsed, parsed_strict}
use Rattle.codes.specs.declared.Words.{Words}
use Rattle.codes.specs.Words.{nothing, words_of, words_or}
use Rattle.codes.specs.Texts.{written}
use Rattle.codes.specs.Lists.{one_normal, list_written}
use Rattle.codes.proofs.Laws.{told}
use Rattle.code_laws.proofs.Written.{written-accepted, written-typed, written-parsed, written-strict, written-untimed, written-calm, written_back}
use Rattle.roundtrip_laws.specs.Domain.{Untimed}
use Rattle.roundtrip_laws.proofs.Seasons.{ported-none}
use Rattle.answers.specs.Answer.{accepted_line, answer_line}
use Rattle.answers.specs.Coded.{words_line}
use Rattle.answers.proofs.Lines.{former-line}
use Rattle.answers.proofs.Coded.{accepted-coded}
use Rattle.frames.specs.declared.Operation.{Operation}
use Rattle.frames.specs.declared.Operation.TheVariants.{Ported, Strict, LevelOne, ThreeFields, Unknown}
use Rattle.frames.specs.Lists.{byte_at, end_of, row_at, list_end, list_text, list_table}
use Rattle.frames.specs.Frame.{one_fills, formed, read_of, frame_read, line_by, frame_answer}
use Rattle.frames.specs.Room.{operation_of, reads_usual, is_usual}
use Rattle.frames.proofs.Parts.{OneChunk, single}

-- the text of the only chunk
abbrev pub only_text : List ℕ → List ℕ
only_text f = take (length f - 12) (drop 12 f)

-- what such a frame has
record Form (f : List ℕ) : Type 0 where
  long : 12 ≤ length f
  one : byte_at f 1 ≡ 1
  normal : byte_at f 2 ≡ 0
  whole : byte_at f 3 ≡ length f - 12
  reads : reads_usual (operation_of f) ≡ true

form : (f : List ℕ) → is_usual f ≡ true → Form f
unfolding is_usual
form f u =
    let p = and-true (leb 12 (length f)) _ u in
    let q = and-true (eqb (byte_at f 1) 1) _ p.1 in
    let r = and-true (eqb (byte_at f 2) 0) _ q.1 in
    let s = and-true (eqb (byte_at f 3) (length f - 12)) _ r.1 in
    record { long = leb-true 12 (length f) p.0; one = eqb-true _ 1 q.0; normal = eqb-true _ 0 r.0; whole = eqb-true _ _ s.0; reads = s.1 }

-- it is long enough for a text
pub usual-long : (f : List ℕ) → is_usual f ≡ true → 12 ≤ length f
usual-long f u = (form f u).long

module _ (f : List ℕ) (u : is_usual f ≡ true) where
  fills : one_fills f ≡ true
  unfolding end_of
  fills =
      let w = form f u in
      let e : list_end f 1 ≡ length f = rw w.one (let l = w.long in let n = w.whole in omega arith) in
      eq-eqb (list_end f 1) (length f) e

  there : OneChunk f 1 (length f)
  there = single f fills refl (form f u).one

  one-normal : one_normal (only_text f) (row_at f 2) ≡ true
  unfolding one_normal row_at
  one-normal =
      let w = form f u in
      let l = w.long in
      let d = length-drop 12 f in
      let n : length (only_text f) ≡ length f - 12 = length-take-le (length f - 12) (drop 12 f) (omega arith) in
      rw (eq-eqb (byte_at f 2) 0 w.normal) (eq-eqb (byte_at f 3) (length (only_text f)) (w.whole ∙ sym n))

  module _ {d : Date} (e : written (only_text f) ≡ Some (Ok d)) where
    at_once : list_written (only_text f) (row_at f 2) ≡ Some (Ok d)
    unfolding list_written pick
    at_once = rw one-normal e

    by-ported : parsed (list_text f 1) (list_table f 1) ≡ Ok d
    by-ported = rw (← there.text_there, ← there.row_there) (written-parsed (only_text f) (row_at f 2) at_once)

    by-strict : parsed_strict (list_text f 1) (list_table f 1) ≡ Ok d
    by-strict = rw (← there.text_there, ← there.row_there) (written-strict (only_text f) (row_at f 2) at_once)

    by-operation : (op : Operation) → operation_of f ≡ op → reads_usual op ≡ true → frame_answer f ≡ answer_line (Ok d)
    unfolding frame_answer line_by frame_read formed read_of reads_usual pick
    by-operation Ported e r = rw (e, fills, by-ported)
    by-operation Strict e r = rw (e, fills, by-strict)
    by-operation LevelOne e r = absurd (false≢true r)
    by-operation ThreeFields e r = absurd (false≢true r)
    by-operation Unknown e r = absurd (false≢true r)

    usual-line : Untimed d.value → accepted_line false d (only_text f) ≡ frame_answer f
    unfolding pick
    usual-line n =
        sym
        (by-operation (operation_of f) refl (form f u).reads
        ∙ former-line d (ported-none _ _ by-ported)
        ∙ rw (written-calm (only_text f) e, written_back (only_text f) e n))

  -- the line of what is said at once, if it has no time
  pub said-line : {w : Words} → w ≡ words_or (written (only_text f)) → (w.last ≡ nothing → ⊥) → w.first_time ≡ 0 → words_line w (only_text f) ≡ frame_answer f
  said-line {w} e h z =
      let t = told (written (only_text f)) (λ q. h (ap (λ (v : Words). v.last) e ∙ q)) in
      let a = written-accepted (only_text f) t.1 in
      let d = a.0 in
      let g : written (only_text f) ≡ Some (Ok d) = t.1 ∙ ap Some a.1 in
      let k : w ≡ words_of (Ok d) = e ∙ ap words_or g in
      accepted-coded d (only_text f) k (written-typed (only_text f) g)
      ∙ usual-line g (written-untimed (only_text f) g (sym (ap (λ (v : Words). v.first_time) k) ∙ z))
