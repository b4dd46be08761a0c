-- What formatting answers and stores, by what the checks found and by the room there is.
-- Assumes nothing.
use mathlib.Core.Path.{◌≡◌, refl, sym, ap, ◌∙◌}
use mathlib.Core.Bool.{Bool, true, false, false≢true}
use mathlib.Core.List.{List, ◌++◌, append-nil}
use Prim.Native.Nat.{ℕ, ◌+◌, ◌*◌, ◌/◌, ◌≤◌, ◌<◌}
use native.Mathlib.Omega.{arith}
use borrow.Author.Tests.{le-leb, lt-leb}
use lib.Dec.{leb}
use lib.ListN.{length, take, drop, length-append}
use lib.Seq.{sets, drop-length, drop_at, take-append_seam}
use Rattle.chars.specs.Pick.{pick}
use Rattle.chars.proofs.Cases.{of_test}
use Rattle.refusals.specs.declared.Kind.TheVariants.{NoRoom}
use Rattle.refusals.specs.declared.Refusal.{Refusal}
use Rattle.refusals.specs.Refusal.{file_span, refusal}
use Rattle.std.specs.Prelude.{Result, Ok, Err}
use Rattle.chunks.specs.Chunks.{chunks_of, fits, is_short}
use Rattle.chunks.specs.Check.{fault_of, checked}
use Rattle.chunks.specs.Format.{formatted}
use Rattle.chunks.specs.Upper.{uppercase}
use Rattle.chunks.specs.Answer.{text_of, room_of, answered, format_answer, buffer_after}
use Rattle.chunks.proofs.Tables.{count}
use Rattle.chunks.proofs.Room.{text-short}
use Rattle.chunks.proofs.Fill.{stored-front, held}
use Rattle.chunks.proofs.Proper.{faulty-not, upper-keeps, proper-text}

module _ (b table : List ℕ) where
  -- the room that is asked for, as the code counts it
  pub room-is : room_of b table ≡ length b + length table / 4 * 2
  unfolding room_of
  room-is = omega (arith, count table)

  -- a list without a fault has a table that fits
  pub clean-fits : checked b table ≡ (Ok tt) → fits b table ≡ true
  unfolding checked pick
  clean-fits e = of_test (fits b table) (λ t. t) (λ t. absurd (faulty-not (rw t at e)))

  pub clean-faultless : checked b table ≡ (Ok tt) → fault_of 0 b (chunks_of table) ≡ (Ok tt)
  unfolding checked pick
  clean-faultless e =
      of_test (is_short b table) (λ t. rw (clean-fits e, t) at e) (λ t. absurd (faulty-not (rw (clean-fits e, t) at e)))

  -- and keeps within the limits
  pub clean-short : checked b table ≡ (Ok tt) → is_short b table ≡ true
  unfolding checked pick
  clean-short e = of_test (is_short b table) (λ t. t) (λ t. absurd (faulty-not (rw (clean-fits e, t) at e)))

  -- upper case keeps its text's length
  pub upper-same : checked b table ≡ (Ok tt) → length (uppercase (formatted b table)) ≡ length (formatted b table)
  upper-same e = upper-keeps (proper-text b table (clean-faultless e))

  pub same-long : (u : Bool) → checked b table ≡ (Ok tt) → length (text_of u b table) ≡ length (formatted b table)
  unfolding text_of pick
  same-long true e = upper-same e
  same-long false e = refl

  module _ (u : Bool) (buf : List ℕ) where
    pub faulted : {e : Refusal} → checked b table ≡ Err e → (Err e ≡ format_answer u b table buf) × (buf ≡ buffer_after (Err e) (text_of u b table) buf)
    unfolding format_answer answered buffer_after
    faulted h = rw h (refl, refl)

    pub no_room : {e : Refusal} → checked b table ≡ (Ok tt) → length buf < room_of b table → e ≡ refusal NoRoom (file_span 0 0) → (Err e ≡ format_answer u b table buf) × (buf ≡ buffer_after (Err e) (text_of u b table) buf)
    unfolding format_answer answered buffer_after pick
    no_room h l e = rw (h, lt-leb _ _ l, e) (refl, refl)

    pub texted : (n : ℕ) (last : List ℕ) → checked b table ≡ (Ok tt) → room_of b table ≤ length buf → n ≡ length (text_of u b table) → last ≡ sets buf 0 (text_of u b table) → (Ok n ≡ format_answer u b table buf) × (last ≡ buffer_after (Ok n) (text_of u b table) buf)
    unfolding format_answer answered buffer_after pick
    texted n last h l e g =
        rw (h, le-leb _ _ l, e)
        (refl, g ∙ stored-front buf (text_of u b table) (omega (arith, same-long u h, text-short b table)))

-- the text at the front of a buffer, put in upper case there
pub raised : (buf mid last all : List ℕ) (n : ℕ) → n ≡ length all → length all ≤ length buf → mid ≡ sets buf 0 all → length (uppercase all) ≡ length all → last ≡ sets (take n mid) 0 (uppercase (take n mid)) → last ++ drop n mid ≡ sets buf 0 (uppercase all)
raised buf mid last all n z h m e g =
    let up : List ℕ = uppercase all in
    let front : take n mid ≡ all = held buf mid all n z m (omega arith) in
    let whole : mid ≡ all ++ drop (length all) buf = m ∙ stored-front buf all h in
    let now : last ≡ up = g ∙ ap (λ (l : List ℕ). sets l 0 (uppercase l)) front ∙ stored-front all up (omega arith) ∙ ap (λ (k : ℕ). up ++ drop k all) e ∙ ap (λ (l : List ℕ). up ++ l) (drop-length all) ∙ append-nil up in
    let rest : drop n mid ≡ drop (length all) buf = ap (drop n) whole ∙ drop_at all (drop (length all) buf) n (sym z) in
    rw (now, rest) (sym (stored-front buf up (omega arith) ∙ ap (λ (k : ℕ). up ++ drop k buf) e))

-- the text that is asked for, by what is asked
module _ (b table : List ℕ) {u : Bool} where
  pub raised-text : u ≡ true → text_of u b table ≡ uppercase (formatted b table)
  unfolding text_of pick
  raised-text e = rw e

  pub plain-as-is : u ≡ false → text_of u b table ≡ formatted b table
  unfolding text_of pick
  plain-as-is e = rw e

-- the answer taken apart
text-of : (k : Result (Unit {0}) Refusal) (room : Bool) (m n : ℕ) → Ok n ≡ answered k room m → (k ≡ (Ok tt)) × (room ≡ true) × (n ≡ m)
unfolding answered pick
text-of (Ok tt) true m n e = (refl, refl, cc)
text-of (Ok tt) false m n e = let z : ◌≡◌ {A = ℕ} 0 1 = cc in absurd (omega arith)
text-of (Err f) room m n e = let z : ◌≡◌ {A = ℕ} 0 1 = cc in absurd (omega arith)

refused-of : (k : Result (Unit {0}) Refusal) (room : Bool) (m : ℕ) {e : Refusal} → Err e ≡ answered k room m → (k ≡ (Ok tt) → room ≡ true) → k ≡ Err e
unfolding answered pick
refused-of (Ok tt) true m e h = let z : ◌≡◌ {A = ℕ} 0 1 = cc in absurd (omega arith)
refused-of (Ok tt) false m e h = absurd (false≢true (h refl))
refused-of (Err f) room m e h = cc

-- What a caller that lends a buffer with room enough knows of the answer.
module _ (u : Bool) (b table buf : List ℕ) where
  -- a text: the list has no fault, and the text stands at the buffer's front
  pub record Given (n : ℕ) (last : List ℕ) : Type 0 where
    pub clean : checked b table ≡ (Ok tt)
    pub front : take n last ≡ text_of u b table
    pub within : n ≤ length last

  pub given : (n : ℕ) (last : List ℕ) → Ok n ≡ format_answer u b table buf → last ≡ buffer_after (Ok n) (text_of u b table) buf → Given n last
  unfolding format_answer buffer_after
  given n last e g =
      let t = text-of (checked b table) (leb (room_of b table) (length buf)) (length (text_of u b table)) n e in
      let z = t.2 in
      record {
        clean = t.0;
        front = rw (z, g) (take-append_seam (text_of u b table) (drop (length (text_of u b table)) buf));
        within = omega (arith, ap length g, length-append (text_of u b table) (drop (length (text_of u b table)) buf));
      }

  -- a refusal: it is the list's fault
  pub not_given : {e : Refusal} → Err e ≡ format_answer u b table buf → (is_short b table ≡ true → room_of b table ≤ length buf) → checked b table ≡ Err e
  unfolding format_answer
  not_given e h =
      refused-of (checked b table) (leb (room_of b table) (length buf)) (length (text_of u b table)) e
      (λ k. le-leb (room_of b table) (length buf) (h (clean-short b table k)))
