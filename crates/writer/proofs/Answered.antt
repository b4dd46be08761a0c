-- The answers of the writers that know no season: what each says of a date's text and of the buffer. Over plain variables. Assumes nothing.
use mathlib.Core.Path.{◌≡◌, refl, sym, ap, ◌∙◌}
use mathlib.Core.Bool.{Bool, true, false, false≢true}
use mathlib.Core.List.{List}
use Prim.Native.Nat.{ℕ, ◌≤◌}
use native.Mathlib.Omega.{arith}
use lib.ListN.{length}
use Rattle.chars.specs.Pick.{pick}
use Rattle.chars.proofs.Cases.{of_test}
use Rattle.refusals.specs.declared.Kind.TheVariants.{HasSeason, NoRoom}
use Rattle.refusals.specs.declared.Refusal.{Refusal}
use Rattle.dates.specs.declared.Date.{Date}
use Rattle.dates.specs.Value.{any_season}
use Rattle.std.specs.Prelude.{Result, Ok, Err}
use Rattle.puts.specs.Answers.{measured, decided, Put, Foretold, answer}
use Rattle.refusals.specs.Refusal.{number, refusal, nowhere}
use Rattle.puts.proofs.Answered.{all_left, fits, done, by-decision, measured-so, answer-foretold}
use Rattle.writer.specs.Texts.{panics}
use Rattle.writer.specs.Answers.{date_measured, date_answer, date_afterwards}
use Rattle.writer.specs.Level.{level_text, level_panics}
use Rattle.writer.proofs.Levels.{season-refused, else-as-before}

abbrev is_done : Result ℕ Refusal → Bool
is_done (Ok n) = true
is_done (Err e) = false

module _ (d : Date) (t : List ℕ) {x : Bool} (ex : x ≡ any_season d.value) where
  -- an end has one
  pub has-season : x ≡ true → {e : Refusal} → e ≡ nowhere HasSeason → Err e ≡ date_measured d t
  has-season q g = ap Err g ∙ sym (season-refused d t (sym ex ∙ q)).0

  -- none has, and the measure is the former one
  pub unseasoned : x ≡ false → {m : Result ℕ Refusal} → m ≡ measured (panics d) t → m ≡ date_measured d t
  unseasoned q e = e ∙ sym (else-as-before d t (sym ex ∙ q)).0

-- before it is stored: m is the measure, w the answer
module _ (d : Date) (t l : List ℕ) {m : Result ℕ Refusal} {w : Result ℕ Refusal} (em : m ≡ date_measured d t) (ew : w ≡ decided m (length l)) where
  by-date : w ≡ date_answer d t (length l)
  unfolding date_answer
  by-date = ew ∙ ap (λ (x : Result ℕ Refusal). decided x (length l)) em

  -- without a season it is as the former measure has it
  former : any_season d.value ≡ false → m ≡ measured (panics d) t
  former q = em ∙ (else-as-before d t q).0

  -- it is to write
  module _ {n : ℕ} (e : w ≡ Ok n) where
    no-season : any_season d.value ≡ false
    no-season =
        of_test (any_season d.value) (λ q. absurd (false≢true (ap is_done (sym ((season-refused d t q).1 (length l)) ∙ sym by-date ∙ e)))) (λ q. q)

    pub date-fits : length t ≤ length l
    date-fits = fits (panics d) t l (former no-season) ew e

    -- and has written
    pub date-done : {out : List ℕ} {k : ℕ} → Put t l 0 out k → (Ok k ≡ date_answer d t (length l)) × (out ≡ date_afterwards d t l)
    date-done p =
        let q = done (panics d) t l (former no-season) ew e p in
        let b = else-as-before d t no-season in
        (q.0 ∙ sym (b.1 (length l)), q.1 ∙ sym (b.2 l))

  -- it refuses
  pub date-refuses : {e : Refusal} → w ≡ Err e → (Err e ≡ date_answer d t (length l)) × (l ≡ date_afterwards d t l)
  unfolding date_afterwards
  date-refuses e = (sym e ∙ by-date, all_left t l (sym by-date ∙ e))

-- what has no measure is refused, whatever the room
pub date-unmeasured : (d : Date) (t l : List ℕ) {m : Result ℕ Refusal} {e : Refusal} → m ≡ date_measured d t → m ≡ Err e → (Err e ≡ date_answer d t (length l)) × (l ≡ date_afterwards d t l)
unfolding decided
date-unmeasured d t l {m} {e} em en = date-refuses d t l {m = m} {w = Err e} em (rw en refl) refl

-- ---- what the length calls tell of the writers

-- HasSeason is not NoRoom, nor is what comes behind it
date-so : (s : Bool) {m : Result ℕ Refusal} → (m ≡ Err (nowhere NoRoom) → ⊥) → pick s (Err (nowhere HasSeason)) m ≡ Err (nowhere NoRoom) → ⊥
unfolding refusal pick
date-so true f e =
    let g : nowhere HasSeason ≡ nowhere NoRoom = cc in
    let z : ◌≡◌ {A = ℕ} 24 13 = ap (λ (r : Refusal). number r.kind) g in
    omega arith
date-so false f e = f e

-- Of a date's text and of its fields: the length call tells what is stored in which room, and refuses what the writer refuses apart from NoRoom.
pub date-foretold : (d : Date) (t : List ℕ) → Foretold (date_measured d t) (date_answer d t)
unfolding date_measured date_answer
date-foretold d t = by-decision (date_measured d t) (date-so (any_season d.value) (measured-so (panics d) t))

-- And so it is of the text of level one.
pub level-foretold : (d : Date) → Foretold (measured (level_panics d) (level_text d)) (answer (level_panics d) (level_text d))
level-foretold d = answer-foretold (level_panics d) (level_text d)
