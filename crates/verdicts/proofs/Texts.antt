-- What the writer leaves in a buffer of 40 bytes: the written text of a Date, or it has none. Assumes nothing.
use mathlib.Core.Path.{◌≡◌, refl}
use mathlib.Core.Bool.{false}
use mathlib.Core.List.{List, []}
use Prim.Native.Nat.{ℕ, ◌≤◌}
use native.Mathlib.Omega.{arith}
use lib.ListN.{length, take, drop, length-append}
use lib.Seq.{take_at}
use borrow.Author.Tests.{le-leb}
use Rattle.chars.specs.Pick.{pick}
use Rattle.chars.proofs.Cases.{of_test}
use Rattle.dates.specs.declared.Date.{Date}
use Rattle.dates.specs.Value.{any_season}
use Rattle.refusals.specs.declared.Refusal.{Refusal}
use Rattle.std.specs.Prelude.{Result, Ok, Err}
use Rattle.puts.specs.Answers.{measured, decided, left}
use Rattle.writer.specs.Texts.{date_text, panics}
use Rattle.writer.specs.Answers.{date_measured, date_answer, date_afterwards}
use Rattle.verdicts.specs.Plain.{text_if, written_text}

-- what the writer left in a buffer, by its answer: the Date's written text, or it has none
data Left (d : Date) (after : List ℕ) : Result ℕ Refusal → Type 0 where
  written : {n : ℕ} → n ≤ length after → take n after ≡ written_text d → Left d after (Ok n)
  unwritten : {e : Refusal} → written_text d ≡ [] → Left d after (Err e)

module _ (d : Date) (h : panics d ≡ false → length (date_text d) ≤ 40) (text : List ℕ) (size : length text ≡ 40) where
  all-cases : Left d (date_afterwards d (date_text d) text) (date_answer d (date_text d) (length text))
  unfolding date_afterwards date_answer date_measured measured decided left text_if written_text pick
  all-cases =
      of_test (any_season d.value) (λ s. rw s (unwritten (rw s)))
      (λ s.
      of_test (panics d) (λ p. rw (s, p) (unwritten (rw (s, p))))
      (λ p.
      let k = h p in
      rw (s, p, le-leb (length (date_text d)) (length text) (omega arith))
      (written {n = length (date_text d)} (let g = length-append (date_text d) (drop (length (date_text d)) text) in omega arith) (rw (s, p) (take_at (date_text d) (drop (length (date_text d)) text) (length (date_text d)) refl)))))

  module _ {w : Result ℕ Refusal} {after : List ℕ} (ew : w ≡ date_answer d (date_text d) 40) (et : after ≡ date_afterwards d (date_text d) text) where
    case : Left d after w
    case = rw (ew, et, ← size) all-cases

    pub done-text : {n : ℕ} → w ≡ Ok n → (n ≤ length after) × (take n after ≡ written_text d)
    done-text e = of-done (rw e at case)
      where
        of-done : {n : ℕ} → Left d after (Ok n) → (n ≤ length after) × (take n after ≡ written_text d)
        of-done (written a b) = (a, b)

    pub no_text : {e : Refusal} → w ≡ Err e → written_text d ≡ []
    no_text e = of_refused (rw e at case)
      where
        of_refused : {e : Refusal} → Left d after (Err e) → written_text d ≡ []
        of_refused (unwritten a) = a
