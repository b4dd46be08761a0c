-- The answers of the writers: what each says of the text and of the buffer. Over plain variables. Assumes nothing.
use mathlib.Core.Path.{◌≡◌, refl, sym, ap, ◌∙◌}
use mathlib.Core.Bool.{Bool, true, false, false≢true}
use mathlib.Core.List.{List}
use Prim.Native.Nat.{ℕ, ◌≤◌, ◌<◌}
use native.Mathlib.Nat.{zero-add}
use native.Mathlib.Omega.{arith}
use lib.Dec.{leb}
use lib.ListN.{length}
use borrow.Author.Tests.{le-leb, lt-leb, leb-true, leb-false}
use Rattle.chars.specs.Pick.{pick}
use Rattle.chars.proofs.Cases.{of_test}
use Rattle.refusals.specs.declared.Kind.TheVariants.{RustPanics, NoRoom}
use Rattle.refusals.specs.declared.Refusal.{Refusal}
use Rattle.std.specs.Prelude.{Result, Ok, Err}
use Rattle.puts.specs.Answers.{measured, decided, answer, left, afterwards, Put, Foretold}
use Rattle.refusals.specs.Refusal.{number, refusal, nowhere}
use Rattle.puts.proofs.Puts.{at_front}

abbrev is_done : Result ℕ Refusal → Bool
is_done (Ok n) = true
is_done (Err e) = false

-- a text that has a length
pub has-length : {b : Bool} (t : List ℕ) {n : ℕ} → b ≡ false → n ≡ length t → Ok n ≡ measured b t
unfolding measured pick
has-length t e h = rw (e, h)

-- and one that has none
pub panicked : {b : Bool} (t : List ℕ) {e : Refusal} → b ≡ true → e ≡ nowhere RustPanics → Err e ≡ measured b t
unfolding measured pick
panicked t q g = rw (q, g)

-- whose answer is a length: the Rust does not panic, and there is room
no-panic : (b : Bool) (t : List ℕ) (room : ℕ) {n : ℕ} → answer b t room ≡ Ok n → b ≡ false
unfolding answer decided measured pick
no-panic true t room e = absurd (false≢true (ap is_done e))
no-panic false t room e = refl

has_room : (t : List ℕ) (room : ℕ) {n : ℕ} → answer false t room ≡ Ok n → length t ≤ room
unfolding answer decided measured pick
has_room t room e =
    of_test (leb (length t) room) (λ q. leb-true (length t) room q) (λ q. absurd (false≢true (ap is_done (rw q at e))))

-- a refusal leaves all as it was
pub all_left : {w : Result ℕ Refusal} (t l : List ℕ) {e : Refusal} → w ≡ Err e → l ≡ left w t l
unfolding left
all_left t l e = rw e

stored : (t l : List ℕ) {m : List ℕ} {k : ℕ} → length t ≤ length l → Put t l 0 m k → (Ok k ≡ answer false t (length l)) × (m ≡ afterwards false t l)
unfolding answer decided measured afterwards left pick
stored t l h p = rw (le-leb (length t) (length l) h) (ap Ok (p.behind ∙ zero-add (length t)), at_front h p)

-- what a writer has found out before it stores: m is the measure, w the answer
module _ (b : Bool) (t l : List ℕ) {m : Result ℕ Refusal} {w : Result ℕ Refusal} (em : m ≡ measured b t) (ew : w ≡ decided m (length l)) where
  by-measure : w ≡ answer b t (length l)
  unfolding answer
  by-measure = ew ∙ ap (λ (x : Result ℕ Refusal). decided x (length l)) em

  -- it is to write
  module _ {n : ℕ} (e : w ≡ Ok n) where
    panics-not : b ≡ false
    panics-not = no-panic b t (length l) (sym by-measure ∙ e)

    pub fits : length t ≤ length l
    fits = has_room t (length l) (ap (λ (x : Bool). answer x t (length l)) (sym panics-not) ∙ sym by-measure ∙ e)

    -- and has written
    pub done : {out : List ℕ} {k : ℕ} → Put t l 0 out k → (Ok k ≡ answer b t (length l)) × (out ≡ afterwards b t l)
    done p = rw panics-not (stored t l fits p)

  -- it refuses
  pub refuses : {e : Refusal} → w ≡ Err e → (Err e ≡ answer b t (length l)) × (l ≡ afterwards b t l)
  unfolding afterwards
  refuses e = (sym e ∙ by-measure, all_left t l (sym by-measure ∙ e))

-- ---- what a length call tells of a writer

not-both : {n : ℕ} {e : Refusal} → Ok n ≡ Err e → ⊥
not-both e = false≢true (sym (ap is_done e))

-- the answer to a length
module _ (k room : ℕ) where
  done-then : {n : ℕ} → decided (Ok k) room ≡ Ok n → (k ≡ n) × (k ≤ room)
  unfolding decided pick
  done-then e =
      of_test (leb k room) (λ q. let f = rw q at e in (cc, leb-true k room q)) (λ q. let f = rw q at e in absurd (not-both (sym f)))

  refused-then : {e : Refusal} → decided (Ok k) room ≡ Err e → (nowhere NoRoom ≡ e) × (room < k)
  unfolding decided pick
  refused-then e =
      of_test (leb k room) (λ q. let f = rw q at e in absurd (not-both f)) (λ q. let f = rw q at e in (cc, leb-false k room q))

  fitting : k ≤ room → decided (Ok k) room ≡ Ok k
  unfolding decided pick
  fitting h = rw (le-leb k room h)

  short : room < k → decided (Ok k) room ≡ Err (nowhere NoRoom)
  unfolding decided pick
  short h = rw (lt-leb k room h)

measures : {m : ℕ} {n : ℕ} → ◌≡◌ {A = Result ℕ Refusal} (Ok m) (Ok n) → m ≡ n
measures e = cc

length-not : {n : ℕ} {e : Refusal} → Ok n ≡ Err e → ⊥
length-not e = let z : ◌≡◌ {A = ℕ} 0 1 = cc in omega arith

-- whoever decides by a measure that is never NoRoom is foretold by it
pub by-decision : (m : Result ℕ Refusal) → (m ≡ Err (nowhere NoRoom) → ⊥) → Foretold m (decided m)
unfolding decided
by-decision (Ok k) f =
    record {
      stores = λ n room. (
        λ e. let q = done-then k room e in (ap Ok q.0, rw (sym q.0) q.1),
        λ (h : (Ok k ≡ Ok n) × (n ≤ room)). let g = measures h.0 in rw (sym g) (fitting k room (rw g h.1)),
      );
      no_room = λ room. (
        λ e. (k, refl, (refused-then k room e).1),
        λ (h : (n : ℕ) × (Ok k ≡ Ok n) × (room < n)). short k room (rw (measures h.1) h.2),
      );
      refuses = λ e room. (
        λ (h : (decided (Ok k) room ≡ Err e) × (e ≡ nowhere NoRoom → ⊥)). absurd (h.1 (sym (refused-then k room h.0).0)),
        λ h. absurd (length-not h),
      );
    }
by-decision (Err x) f =
    record {
      stores = λ n room. (λ e. absurd (not-both (sym e)), λ (h : (Err x ≡ Ok n) × (n ≤ room)). absurd (length-not (sym h.0)));
      no_room = λ room. (
        λ e. let g : x ≡ nowhere NoRoom = cc in absurd (f (ap Err g)),
        λ (h : (n : ℕ) × (Err x ≡ Ok n) × (room < n)). absurd (length-not (sym h.1)),
      );
      refuses = λ e room. (
        λ (h : (Err x ≡ Err e) × (e ≡ nowhere NoRoom → ⊥)). let h0 = h.0 in let g : x ≡ e = cc in ap Err g,
        λ h. let g : x ≡ e = cc in (ap Err g, λ k. f (ap Err (g ∙ k))),
      );
    }

-- RustPanics is not NoRoom
pub measured-so : (b : Bool) (t : List ℕ) → measured b t ≡ Err (nowhere NoRoom) → ⊥
unfolding measured refusal pick
measured-so true t e =
    let g : nowhere RustPanics ≡ nowhere NoRoom = cc in
    let z : ◌≡◌ {A = ℕ} 9 13 = ap (λ (r : Refusal). number r.kind) g in
    omega arith
measured-so false t e = length-not e

-- a writer that knows no other refusal is foretold by the measure of its text
pub answer-foretold : (b : Bool) (t : List ℕ) → Foretold (measured b t) (answer b t)
unfolding answer
answer-foretold b t = by-decision (measured b t) (measured-so b t)
