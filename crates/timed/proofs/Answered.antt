-- The answers of the writer: what each says of the text and of the buffer. Over plain variables. Assumes nothing.
use mathlib.Core.Path.{◌≡◌, refl, sym, ap, ◌∙◌}
use mathlib.Core.Bool.{Bool, true, false, false≢true}
use mathlib.Core.List.{List, ◌++◌, append-nil}
use Prim.Native.Nat.{ℕ, ◌+◌, ◌-◌, ◌≤◌}
use native.Mathlib.Nat.{zero-add}
use native.Mathlib.Omega.{arith}
use lib.Dec.{leb}
use lib.ListN.{length, take, drop}
use lib.Seq.{sets-eq}
use borrow.Author.Tests.{le-leb, leb-true}
use borrow.Rule.Slice.PartMut.{put_mid}
use Rattle.chars.specs.Pick.{pick}
use Rattle.chars.proofs.Cases.{of_test}
use Rattle.refusals.specs.declared.Kind.TheVariants.{RustPanics, NoRoom, BadTime, HasSeason}
use Rattle.refusals.specs.declared.Refusal.{Refusal}
use Rattle.dates.specs.declared.Datetime.{Datetime}
use Rattle.dates.specs.declared.Date.{Date}
use Rattle.dates.specs.Value.{from_datetime, has_season, any_season}
use Rattle.std.specs.Prelude.{Result, Ok, Err}
use Rattle.puts.specs.Answers.{decided, left, Put, Foretold}
use Rattle.refusals.specs.Refusal.{number, refusal, nowhere}
use Rattle.puts.specs.Answers as writing
use Rattle.writer.specs.Answers.{date_measured, date_answer, date_afterwards}
use Rattle.writer.specs.Texts.{datetime_text, date_text, end_panics, value_panics, panics}
use Rattle.puts.specs.Marks.{mark_text}
use Rattle.writer.specs.Texts as untimed
use Rattle.puts.proofs.Puts.{at_front, lent, lent-room}
use Rattle.puts.proofs.Answered.{all_left, by-decision}
use Rattle.writer.proofs.Levels.{else-as-before}
use Rattle.timed.specs.Texts.{timed_text, times_text}
use Rattle.timed.specs.Answers.{value_bad, plain_measured, timed_measured, timed_answer, timed_afterwards}
use Rattle.timed.proofs.Pieces.{timed-length, timed-most}

abbrev is_done : Result ℕ Refusal → Bool
is_done (Ok n) = true
is_done (Err e) = false

abbrev is_length : Result ℕ Refusal → Bool
is_length (Ok n) = true
is_length (Err e) = false

-- the number of a refusal; 0 if there is none
abbrev kind_of : Result ℕ Refusal → ℕ
kind_of (Ok n) = 0
kind_of (Err e) = number e.kind

other-kind : {m n : Result ℕ Refusal} → (kind_of m ≡ kind_of n → ⊥) → m ≡ n → ⊥
other-kind f e = f (ap kind_of e)

-- the measure by the two tests
abbrev measure : Bool → Bool → List ℕ → Result ℕ Refusal
measure p b t = pick p (Err (nowhere RustPanics)) (pick b (Err (nowhere BadTime)) (Ok (length t)))

-- and with seasons by three
abbrev asked : Bool → Result ℕ Refusal → Result ℕ Refusal
asked s m = pick s (Err (nowhere HasSeason)) m

-- ---- seasons

module _ (d : Date) where
  -- an end has one: HasSeason, and nothing is stored
  pub seasoned : any_season d.value ≡ true → (timed_measured d ≡ Err (nowhere HasSeason)) × ((room : ℕ) → timed_answer d room ≡ Err (nowhere HasSeason)) × ((out : List ℕ) → timed_afterwards d out ≡ out)
  unfolding timed_measured timed_answer timed_afterwards decided left pick
  seasoned e = (
    ap (λ (s : Bool). asked s (plain_measured d)) e,
    λ (room : ℕ). ap (λ (s : Bool). decided (asked s (plain_measured d)) room) e,
    λ (out : List ℕ). ap (λ (s : Bool). left (decided (asked s (plain_measured d)) (length out)) (timed_text d) out) e,
  )

  -- none has: all is as without seasons
  pub plain : any_season d.value ≡ false → (timed_measured d ≡ plain_measured d) × ((room : ℕ) → timed_answer d room ≡ decided (plain_measured d) room) × ((out : List ℕ) → timed_afterwards d out ≡ left (decided (plain_measured d) (length out)) (timed_text d) out)
  unfolding timed_measured timed_answer timed_afterwards pick
  plain e = (
    ap (λ (s : Bool). asked s (plain_measured d)) e,
    λ (room : ℕ). ap (λ (s : Bool). decided (asked s (plain_measured d)) room) e,
    λ (out : List ℕ). ap (λ (s : Bool). left (decided (asked s (plain_measured d)) (length out)) (timed_text d) out) e,
  )

-- ---- the measure, by that of the text without its times

module _ (d : Date) {m : Result ℕ Refusal} (em : m ≡ date_measured d (date_text d)) where
  has_none : (s p : Bool) (t : List ℕ) {n : ℕ} → asked s (writing.measured p t) ≡ Ok n → (s ≡ false) × (p ≡ false) × (n ≡ length t)
  unfolding writing.measured pick
  has_none true p t e = absurd (false≢true (ap is_length e))
  has_none false true t e = absurd (false≢true (ap is_length e))
  has_none false false t e = (refl, refl, cc)

  -- no end has a season or panics
  module _ {n : ℕ} (e : m ≡ Ok n) where
    pub no-panic : (any_season d.value ≡ false) × (panics d ≡ false) × (n ≡ length (date_text d))
    unfolding date_measured
    no-panic = has_none (any_season d.value) (panics d) (date_text d) (sym em ∙ e)

    module _ {b : Bool} (eb : b ≡ value_bad d.value) where
      pub is-bad : b ≡ true → {x : Refusal} → x ≡ nowhere BadTime → Err x ≡ timed_measured d
      unfolding plain_measured pick
      is-bad f {x} g =
          let q : Err x ≡ plain_measured d = rw (no-panic.1, sym eb ∙ f, g) in
          q ∙ sym (plain d no-panic.0).0

      pub has-length : b ≡ false → {k : ℕ} → k ≡ length (times_text d.value) → Ok (n + k) ≡ timed_measured d
      unfolding plain_measured pick
      has-length f {k} g =
          let q : Ok (n + k) ≡ plain_measured d = rw (no-panic.1, sym eb ∙ f, no-panic.2, g) (ap Ok (sym (timed-length d))) in
          q ∙ sym (plain d no-panic.0).0

  -- one has or does
  pub panicked : {x : Refusal} → m ≡ Err x → Err x ≡ timed_measured d
  unfolding timed_measured plain_measured date_measured writing.measured pick
  panicked {x} e = go (any_season d.value) (panics d) (sym em ∙ e)
    where
      go : (s p : Bool) → asked s (writing.measured p (date_text d)) ≡ Err x → Err x ≡ asked s (measure p (value_bad d.value) (timed_text d))
      go true p e = sym e
      go false true e = sym e
      go false false e = absurd (false≢true (sym (ap is_length e)))

  pub most : (panics d ≡ false → length (date_text d) ≤ 40) → panics d ≡ false → length (timed_text d) ≤ 70
  most f p = timed-most d (f p)

-- ---- the whole text

has_room : (t : List ℕ) (room : ℕ) {n : ℕ} → decided (Ok (length t)) room ≡ Ok n → length t ≤ room
unfolding decided pick
has_room t room e = of_test (leb (length t) room) (λ q. leb-true (length t) room q) (λ q. absurd (false≢true (ap is_done (rw q at e))))

-- whose answer is a length: no end has a season, panics or has a bad time, and there is room
told : (s p b : Bool) (t : List ℕ) (room : ℕ) {n : ℕ} → decided (asked s (measure p b t)) room ≡ Ok n → (s ≡ false) × (p ≡ false) × (length t ≤ room)
unfolding decided pick
told true p b t room e = absurd (false≢true (ap is_done e))
told false true b t room e = absurd (false≢true (ap is_done e))
told false false true t room e = absurd (false≢true (ap is_done e))
told false false false t room e = (refl, refl, has_room t room e)

stored : (s p b : Bool) (t l : List ℕ) {n : ℕ} → decided (asked s (measure p b t)) (length l) ≡ Ok n → {m : List ℕ} {k : ℕ} → Put t l 0 m k → (Ok k ≡ decided (asked s (measure p b t)) (length l)) × (m ≡ left (decided (asked s (measure p b t)) (length l)) t l)
unfolding decided left pick
stored true p b t l e q = absurd (false≢true (ap is_done e))
stored false true b t l e q = absurd (false≢true (ap is_done e))
stored false false true t l e q = absurd (false≢true (ap is_done e))
stored false false false t l e q =
    let h = has_room t (length l) e in
    rw (le-leb (length t) (length l) h) (ap Ok (q.behind ∙ zero-add (length t)), at_front h q)

-- what is found out before anything is stored: m is the measure, w the answer
module _ (d : Date) (l : List ℕ) {m : Result ℕ Refusal} {w : Result ℕ Refusal} (em : m ≡ timed_measured d) (ew : w ≡ decided m (length l)) where
  by-measure : w ≡ timed_answer d (length l)
  unfolding timed_answer
  by-measure = ew ∙ ap (λ (x : Result ℕ Refusal). decided x (length l)) em

  -- it is to write
  module _ {n : ℕ} (e : w ≡ Ok n) where
    pub fits : (any_season d.value ≡ false) × (panics d ≡ false) × (length (timed_text d) ≤ length l)
    unfolding timed_answer timed_measured plain_measured
    fits = told (any_season d.value) (panics d) (value_bad d.value) (timed_text d) (length l) (sym by-measure ∙ e)

    -- and has written
    pub done : {out : List ℕ} {k : ℕ} → Put (timed_text d) l 0 out k → (Ok k ≡ timed_answer d (length l)) × (out ≡ timed_afterwards d l)
    unfolding timed_answer timed_measured plain_measured timed_afterwards
    done p = stored (any_season d.value) (panics d) (value_bad d.value) (timed_text d) l (sym by-measure ∙ e) p

  -- it refuses
  pub refuses : {e : Refusal} → w ≡ Err e → (Err e ≡ timed_answer d (length l)) × (l ≡ timed_afterwards d l)
  unfolding timed_afterwards
  refuses e = (sym e ∙ by-measure, all_left (timed_text d) l (sym by-measure ∙ e))

-- HasSeason, RustPanics and BadTime are not NoRoom
timed-so : (s p b : Bool) (t : List ℕ) → asked s (measure p b t) ≡ Err (nowhere NoRoom) → ⊥
unfolding refusal pick
timed-so true p b t e = other-kind (λ (z : ◌≡◌ {A = ℕ} 24 13). omega arith) e
timed-so false true b t e = other-kind (λ (z : ◌≡◌ {A = ℕ} 9 13). omega arith) e
timed-so false false true t e = other-kind (λ (z : ◌≡◌ {A = ℕ} 22 13). omega arith) e
timed-so false false false t e = false≢true (sym (ap is_length e))

-- The length call tells what is stored in which room, and refuses what the writer refuses apart from NoRoom.
pub timed-foretold : (d : Date) → Foretold (timed_measured d) (timed_answer d)
unfolding timed_measured plain_measured timed_answer
timed-foretold d = by-decision (timed_measured d) (timed-so (any_season d.value) (panics d) (value_bad d.value) (timed_text d))

-- ---- one end without its time, by the writer of dates in the rest of the buffer

-- a Datetime alone has its own text
alone : (d : Datetime) → date_text (from_datetime d) ≡ datetime_text d
unfolding date_text untimed.value_text mark_text
alone d = append-nil (datetime_text d)

alone-panics : (d : Datetime) → panics (from_datetime d) ≡ end_panics d
unfolding panics value_panics
alone-panics d = refl

-- where there is room nothing is refused
has_done : (t l : List ℕ) {w : Result ℕ Refusal} → length t ≤ length l → w ≡ writing.answer false t (length l) → w ≡ Ok (length t)
unfolding writing.answer writing.measured decided pick
has_done t l h e = e ∙ rw (le-leb (length t) (length l) h)

has-stored : (t l : List ℕ) {m : List ℕ} → length t ≤ length l → m ≡ writing.afterwards false t l → Put t l 0 m (length t)
unfolding writing.afterwards writing.answer writing.measured decided left pick
has-stored t l h e =
    record {
      behind = sym (zero-add (length t));
      bytes =
          e
          ∙ rw (le-leb (length t) (length l) h) (sym (sets-eq t l 0 (omega arith) ∙ ap (λ (j : ℕ). t ++ drop j l) (zero-add (length t))));
    }

-- the buffer m is lent on from a place, and comes back there as p with the answer w
module _ (d : Datetime) (m p : List ℕ) (at : ℕ) {w : Result ℕ Refusal} {x : Date} (ex : x ≡ from_datetime d) (h : (has_season d ≡ false) × (end_panics d ≡ false) × (at + length (datetime_text d) ≤ length m))
    (ew : w ≡ date_answer x (date_text x) (length (take (length m - at) (drop at m))))
    (ep : p ≡ date_afterwards x (date_text x) (take (length m - at) (drop at m))) where
  abbrev part : List ℕ
  part = take (length m - at) (drop at m)

  -- it has no season
  no-season : any_season x.value ≡ false
  no-season = ap (λ (y : Date). any_season y.value) ex ∙ h.0

  known : w ≡ Ok (length (datetime_text d))
  known = has_done (datetime_text d) part (lent-room (datetime_text d) m at h.2) (ew ∙ (else-as-before x (date_text x) no-season).1 (length part) ∙ rw (ex, alone d, alone-panics d, h.1))

  put : Put (datetime_text d) part 0 p (length (datetime_text d))
  put = has-stored (datetime_text d) part (lent-room (datetime_text d) m at h.2) (ep ∙ (else-as-before x (date_text x) no-season).2 part ∙ rw (ex, alone d, alone-panics d, h.1))

  count : {n : ℕ} → w ≡ Ok n → length (datetime_text d) ≡ n
  count e = let k = known in cc

  pub end-put : {n : ℕ} → w ≡ Ok n → Put (datetime_text d) m at (put_mid at (length m - at) m p) (at + n)
  end-put e = rw (sym (count e)) (lent (datetime_text d) m p at (length (datetime_text d)) h.2 put)

  pub end-count : {n : ℕ} → w ≡ Ok n → at + n ≤ length m
  end-count e = omega (arith, count e, h.2)

  pub never-refused : {e : Refusal} → w ≡ Err e → ⊥
  never-refused e = false≢true (ap is_done (sym e ∙ known))
