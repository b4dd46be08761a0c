-- The line that was written, or that there is no room for. Assumes nothing.
use mathlib.Core.Path.{◌≡◌, refl, sym, ap, ◌∙◌}
use mathlib.Core.Bool.{Bool, true, false, false≢true}
use mathlib.Core.List.{List, ◌++◌}
use Prim.Native.Nat.{ℕ, ◌+◌, ◌*◌, ◌≤◌, ◌<◌}
use native.Mathlib.Omega.{arith}
use borrow.Author.Tests.{lt-leb, le-leb}
use lib.ListN.{length, take, drop, length-append}
use lib.Seq.{take_at}
use Rattle.chars.specs.Pick.{pick}
use Rattle.chars.proofs.Cases.{of_test}
use Rattle.refusals.specs.declared.Refusal.{Refusal}
use Rattle.refusals.specs.declared.Kind.TheVariants.{RustPanics}
use Rattle.dates.specs.declared.Date.{Date}
use Rattle.dates.specs.Value.{any_season}
use Rattle.std.specs.Prelude.{Result, Ok, Err}
use Rattle.puts.specs.Answers.{measured, decided, answer, left, afterwards, Put}
use Rattle.refusals.specs.Refusal.{nowhere}
use Rattle.writer.specs.Answers.{date_measured, date_answer, date_afterwards}
use Rattle.writer.specs.Texts.{date_text, panics}
use Rattle.writer.specs.Level.{level_text, level_panics}
use Rattle.puts.proofs.Answered.{has-length, done}
use Rattle.writer.proofs.Levels.{season-refused, else-as-before}
use Rattle.answers.specs.Answer.{end_length, refused_bytes, refused_line, accepted_line, measured_line, answer_line, level_line}
use Rattle.answers.proofs.Digits.{length-line, length-refused, accepted-most, end-least}

abbrev is_done : Result ℕ Refusal → Bool
is_done (Ok n) = true
is_done (Err e) = false

abbrev count_of : Result ℕ Refusal → ℕ
count_of (Ok n) = n
count_of (Err e) = 0

abbrev refusal_of : Result ℕ Refusal → Refusal → Refusal
refusal_of (Ok n) o = o
refusal_of (Err e) o = e

refusal-same : {e f : Refusal} → ◌≡◌ {A = Result ℕ Refusal} (Err e) (Err f) → e ≡ f
refusal-same {e} {f} q = ap (λ (w : Result ℕ Refusal). refusal_of w e) q

-- a line of a known length
module _ (t l : List ℕ) where
  pub no_line : length l < length t → {w : Result ℕ Refusal} → w ≡ decided (Ok 1) 0 → (w ≡ answer false t (length l)) × (l ≡ afterwards false t l)
  unfolding decided answer measured afterwards left pick
  no_line h e = rw (lt-leb (length t) (length l) h) (e, refl)

  pub line-done : length t ≤ length l → {m : List ℕ} {k : ℕ} → Put t l 0 m k → (Ok k ≡ answer false t (length l)) × (m ≡ afterwards false t l)
  unfolding decided pick
  line-done h p = done false t l {m = Ok (length t)} {w = Ok (length t)} (has-length t refl refl) (rw (le-leb (length t) (length l) h)) {n = length t} refl p

abbrev has_length : Result ℕ Refusal → Bool
has_length (Ok n) = true
has_length (Err e) = false

abbrev length_of : Result ℕ Refusal → ℕ
length_of (Ok n) = n
length_of (Err e) = 0

-- a text of so many bytes stands at the front of a buffer, and there was room for it
record Whole (t after : List ℕ) (room n : ℕ) : Type 0 where
  fits : n ≤ room
  front : take n after ≡ t
  inside : n ≤ length after

-- what was measured, by what was then answered
done-is : (m : Result ℕ Refusal) (room : ℕ) → ((n : ℕ) → m ≡ Ok n → n ≤ room) → {n : ℕ} → decided m room ≡ Ok n → m ≡ Ok n
unfolding decided pick
done-is (Ok k) room f e = ap Ok (ap count_of (rw (le-leb k room (f k refl)) at e))
done-is (Err r) room f e = absurd (false≢true (ap is_done e))

refused-is : (m : Result ℕ Refusal) (room : ℕ) → ((n : ℕ) → m ≡ Ok n → n ≤ room) → {e : Refusal} → decided m room ≡ Err e → m ≡ Err e
unfolding decided pick
refused-is (Ok k) room f e = absurd (false≢true (sym (ap is_done (rw (le-leb k room (f k refl)) at e))))
refused-is (Err r) room f e = ap Err (refusal-same e)

-- a Date's line, by what the writer measured of its text and what it answered
module _ (level : Bool) (d : Date) (t : List ℕ) (m : Result ℕ Refusal) (room : ℕ) {after : List ℕ} (h : (n : ℕ) → m ≡ Ok n → Whole t after room n)
    {w : Result ℕ Refusal} (ew : w ≡ decided m room) where
  with-text : {n : ℕ} → w ≡ Ok n → (n ≤ length after) × (accepted_line level d (take n after) ≡ measured_line level d t m)
  unfolding measured_line
  with-text {n} e =
      let l = done-is m room (λ k q. (h k q).fits) (sym ew ∙ e) in
      let q = h n l in
      (q.inside, ap (λ (x : List ℕ). accepted_line level d x) q.front ∙ ap (λ (x : Result ℕ Refusal). measured_line level d t x) (sym l))

  without-text : {e : Refusal} → w ≡ Err e → refused_line e ≡ measured_line level d t m
  unfolding measured_line
  without-text e =
      ap (λ (x : Result ℕ Refusal). measured_line level d t x) (sym (refused-is m room (λ k q. (h k q).fits) (sym ew ∙ e)))

-- what a writer leaves in a buffer that has the room
whole : (b : Bool) (t text : List ℕ) (room : ℕ) → (b ≡ false → length t ≤ room) → length text ≡ room → {after : List ℕ} → after ≡ afterwards b t text → (n : ℕ) → measured b t ≡ Ok n → Whole t after room n
unfolding answer decided measured afterwards left pick
whole true t text room h size et n e = absurd (false≢true (ap has_length e))
whole false t text room h size et n e =
    let k : length t ≡ n = ap length_of e in
    let g : afterwards false t text ≡ t ++ drop (length t) text = rw (le-leb (length t) (length text) (omega (arith, h refl, size))) in
    let a = et ∙ g in
    let l = length-append t (drop (length t) text) in
    record { fits = omega (arith, h refl, k); front = rw a (take_at t (drop (length t) text) n k); inside = rw a (omega (arith, k, l)) }

-- the writer that knows no season
module _ (d : Date) (h : panics d ≡ false → length (date_text d) ≤ 40) (text : List ℕ) (size : length text ≡ 40) {w : Result ℕ Refusal} {after : List ℕ}
    (ew : w ≡ date_answer d (date_text d) 40) (et : after ≡ date_afterwards d (date_text d) text) where
  date-whole : (n : ℕ) → date_measured d (date_text d) ≡ Ok n → Whole (date_text d) after 40 n
  date-whole n e =
      of_test (any_season d.value) (λ q. absurd (false≢true (ap has_length (sym (season-refused d (date_text d) q).0 ∙ e))))
      (λ q. let b = else-as-before d (date_text d) q in whole (panics d) (date_text d) text 40 h size (et ∙ b.2 text) n (sym b.0 ∙ e))

  pub date-line : {n : ℕ} → w ≡ Ok n → (n ≤ length after) × (accepted_line false d (take n after) ≡ answer_line (Ok d))
  unfolding answer_line date_answer
  date-line e = with-text false d (date_text d) (date_measured d (date_text d)) 40 date-whole ew e

  pub no-date-line : {e : Refusal} → w ≡ Err e → refused_line e ≡ answer_line (Ok d)
  unfolding answer_line date_answer
  no-date-line e = without-text false d (date_text d) (date_measured d (date_text d)) 40 date-whole ew e

-- and that of level one
module _ (d : Date) (h : length (level_text d) ≤ 42) (text : List ℕ) (size : length text ≡ 42) {w : Result ℕ Refusal} {after : List ℕ}
    (ew : w ≡ answer (level_panics d) (level_text d) 42) (et : after ≡ afterwards (level_panics d) (level_text d) text) where
  level-whole : (n : ℕ) → measured (level_panics d) (level_text d) ≡ Ok n → Whole (level_text d) after 42 n
  level-whole = whole (level_panics d) (level_text d) text 42 (λ _. h) size et

  pub level-line : {n : ℕ} → w ≡ Ok n → (n ≤ length after) × (accepted_line true d (take n after) ≡ level_line (Ok d))
  unfolding level_line answer
  level-line e = with-text true d (level_text d) (measured (level_panics d) (level_text d)) 42 level-whole ew e

  pub no-level-line : {e : Refusal} → w ≡ Err e → refused_line e ≡ level_line (Ok d)
  unfolding level_line answer
  no-level-line e = without-text true d (level_text d) (measured (level_panics d) (level_text d)) 42 level-whole ew e

-- a Date that has no measure
pub no-text-line : (d : Date) {m : Result ℕ Refusal} {e : Refusal} → m ≡ date_measured d (date_text d) → m ≡ Err e → refused_line e ≡ answer_line (Ok d)
unfolding measured_line answer_line
no-text-line d em en = ap (λ (x : Result ℕ Refusal). measured_line false d (date_text d) x) (sym en ∙ em)

-- the line of a Date without a season: that of RustPanics, or of the Date with its text
pub former-line : (d : Date) → any_season d.value ≡ false → answer_line (Ok d) ≡ pick (panics d) (refused_line (nowhere RustPanics)) (accepted_line false d (date_text d))
unfolding answer_line measured_line measured pick
former-line d q =
    ap (λ (m : Result ℕ Refusal). measured_line false d (date_text d) m) (else-as-before d (date_text d) q).0
    ∙ of_test (panics d) (λ p. rw p refl) (λ p. rw p refl)

-- the line of a refusal has one length
pub refused-length : (e : Refusal) → length (refused_line e) ≡ 35
refused-length e = omega (arith, length-line (refused_bytes e), length-refused e)

-- how long the line of a Date is, by how long its text can be
measured-most : (level : Bool) (d : Date) (t : List ℕ) (m : Result ℕ Refusal) (n : ℕ) → length t ≤ n → length (measured_line level d t m) ≤ 2 * (3 + 2 * end_length level + n) + 1
unfolding measured_line
measured-most level d t (Ok k) n h = omega (arith, accepted-most level d t)
measured-most level d t (Err e) n h = omega (arith, refused-length e, end-least level)

-- how long an answer is, by how long the text of an accepted Date can be
pub line-most : (n : ℕ) (r : Result Date Refusal) → ((d : Date) → r ≡ Ok d → length (date_text d) ≤ n) → length (answer_line r) ≤ 2 * (29 + n) + 1
unfolding answer_line end_length
line-most n (Ok d) h = omega (arith, measured-most false d (date_text d) (date_measured d (date_text d)) n (h d refl))
line-most n (Err e) h = omega (arith, refused-length e)

-- and by level one: two bytes more
pub level-line-most : (n : ℕ) (r : Result Date Refusal) → ((d : Date) → r ≡ Ok d → length (level_text d) ≤ n) → length (level_line r) ≤ 2 * (31 + n) + 1
unfolding level_line end_length
level-line-most n (Ok d) h = omega (arith, measured-most true d (level_text d) (measured (level_panics d) (level_text d)) n (h d refl))
level-line-most n (Err e) h = omega (arith, refused-length e)
