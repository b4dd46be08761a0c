-- A Date whose numbers are usual is written from its words. Over plain variables. Assumes nothing.
use mathlib.Core.Path.{◌≡◌, refl, sym, ap, ◌∙◌, subst}
use mathlib.Core.Bool.{true, false, ◌&&◌}
use mathlib.Core.List.{List, [], ◌∷◌, ◌++◌}
use Prim.Native.Nat.{ℕ, ◌≤◌, ◌<◌}
use native.Mathlib.Omega.{arith}
use lib.Dec.{eqb, leb}
use lib.ListN.{length, drop}
use borrow.Author.Tests.{eq-eqb}
use Rattle.chars.specs.Pick.{pick}
use Rattle.chars.proofs.Cases.{of_test, and-true}
use Rattle.dates.specs.declared.Day.{Day}
use Rattle.dates.specs.declared.Month.{Month}
use Rattle.std.specs.Prelude.{Option}
use Rattle.dates.specs.declared.Datetime.{Datetime}
use Rattle.dates.specs.declared.Date.{Date}
use Rattle.dates.specs.Value.{has_season, any_season}
use Rattle.puts.specs.Answers.{measured, decided, left}
use Rattle.writer.specs.Answers.{date_measured, date_answer, date_afterwards}
use Rattle.writer.specs.Texts.{date_text}
use Rattle.codes.specs.Words.{four_bytes, last_word}
use Rattle.codes.specs.Back.{is_plain_word, words_text, is_plain, plain_length, has_room, words_put}
use Rattle.codes.specs.Unpacked.{month_of as word_month, day_of as word_day, season_of}
use Rattle.code_laws.proofs.Back.{Said, TextOf, point-said, words-said, no_end}
use Rattle.knobstream.specs.declared.PlainDatetime.{PlainDatetime}
use Rattle.knobstream.specs.declared.PlainWritten.{PlainWritten}
use Rattle.knobstream.specs.Plain.{parts, day_word, written, measure}
use Rattle.knobstream.specs.Layout.{DatetimeFits}
use Rattle.knobstream.specs.Back.{is_set, month_of, day_of, time_of, datetime_of, date_value, date_by, date_of}
use Rattle.knobstream.proofs.Laws.{season-set}

-- a part that may be absent is the same by its word
same-month : (has n : ℕ) → word_month has n ≡ month_of has n
unfolding word_month month_of is_set pick
same-month has n = of_test (eqb has 0) (λ x. rw x) (λ x. rw x)

same-day : (has n : ℕ) → word_day has n ≡ day_of has n
unfolding word_day day_of is_set pick
same-day has n = of_test (eqb has 0) (λ x. rw x) (λ x. rw x)

module _ (p : PlainDatetime) where
  abbrev with-parts : Option Month → Option Day → Datetime
  with-parts m d = record { year = p.year; month = m; day = d; time = time_of p; season = season_of p.season }

  point : DatetimeFits p → is_plain_word (day_word p) ≡ true → Said (day_word p) (datetime_of p)
  unfolding datetime_of
  point h e =
      let s =
      point-said p.year p.has_month p.month p.has_day p.day h.year_fits h.bytes_fit.0 h.bytes_fit.1.0 h.bytes_fit.1.1.0 h.bytes_fit.1.1.1.0 e (time_of p) (season_of p.season) in
      subst (λ (m : Option Month). Said (day_word p) (with-parts m (day_of p.has_day p.day))) (same-month p.has_month p.month)
      (subst (λ (d : Option Day). Said (day_word p) (with-parts (word_month p.has_month p.month) d)) (same-day p.has_day p.day) s)

  season-none : p.season ≡ 0 → has_season (datetime_of p) ≡ false
  unfolding datetime_of is_set
  season-none e = season-set p.season ∙ rw (eq-eqb p.season 0 e)

module _ (shape u p : ℕ) (first second : PlainDatetime) where
  pub no-season : (first.season ≡ 0) × (3 ≤ shape → second.season ≡ 0) → any_season (date_of (parts shape u p first second)).value ≡ false
  unfolding date_by date_value
  no-season e = no_end shape (datetime_of first) (datetime_of second) has_season (season-none first e.0) λ g. season-none second (e.1 g)

  pub text-of : {a b last : ℕ} → a ≡ day_word first → b ≡ day_word second → last ≡ four_bytes shape u p 0 → shape < 256 → u < 256 → p < 256 → DatetimeFits first
      → DatetimeFits second → is_plain a b last ≡ true → TextOf a b last (date_of (parts shape u p first second))
  unfolding date_by date_value is_set
  text-of ea eb el hs hu hp h k =
      let q : four_bytes shape u p 0 ≡ last_word shape u p 0 = omega arith in
      rw (ea, eb, el, q)
      λ f.
      words-said shape u p 0 (day_word first) (day_word second) hs hu hp (omega arith) (datetime_of first) (datetime_of second) f (point first h) λ g. point second k

-- what is answered of words that have the text of a Date
module _ (a b last : ℕ) (d : Date) (told : is_plain a b last ≡ true → TextOf a b last d) (no : any_season d.value ≡ false) where
  pub measured-at-once : {n : ℕ} → n ≡ plain_length a b last → (n ≡ 0 → ⊥) → record { length = n; refusal = 0 } ≡ measure (date_measured d (date_text d))
  unfolding plain_length date_measured measured pick
  measured-at-once {n} e z =
      of_test (is_plain a b last)
      (λ q.
      let t = told q in
      let f : n ≡ length (date_text d) = rw q at e ∙ ap length t.text in
      rw (no, t.written, f))
      (λ q. absurd (z (rw q at e)))

  module _ (l : List ℕ) {n : ℕ} {m : List ℕ} (e : n ≡ pick (has_room a b last (length l)) (length (words_text a b last)) 0) (f : m ≡ words_put a b last l) where
    pub written-at-once : (n ≡ 0 → ⊥) → (record { length = n; refusal = 0 } ≡ written (date_answer d (date_text d) (length l))) × (m ≡ date_afterwards d (date_text d) l)
    unfolding has_room words_put date_answer date_afterwards date_measured measured decided left pick
    written-at-once z =
        of_test (is_plain a b last && leb (length (words_text a b last)) (length l))
        (λ q.
        let r = and-true (is_plain a b last) (leb (length (words_text a b last)) (length l)) q in
        let t = told r.0 in
        let g : n ≡ length (date_text d) = rw q at e ∙ ap length t.text in
        let h : m ≡ date_text d ++ drop (length (date_text d)) l = rw (q, t.text) at f in
        let k : leb (length (date_text d)) (length l) ≡ true = rw t.text at r.1 in
        rw (no, t.written, k, g) (refl, h))
        (λ q. absurd (z (rw q at e)))

-- where nothing was put, all is as it was
module _ (a b last : ℕ) (l : List ℕ) where
  empty : (t : List ℕ) → length t ≡ 0 → t ++ drop (length t) l ≡ l
  empty [] q = refl
  empty (x ∷ t) q = absurd (omega arith)

  pub nothing_put : {n : ℕ} {m : List ℕ} → n ≡ pick (has_room a b last (length l)) (length (words_text a b last)) 0 → m ≡ words_put a b last l → n ≡ 0 → m ≡ l
  unfolding words_put pick
  nothing_put e f z =
      of_test (has_room a b last (length l))
      (λ q. rw q at f ∙ empty (words_text a b last) (sym (rw q at e) ∙ z))
      (λ q. rw q at f)

-- what was written into a buffer that is another's
pub written-into : (d : Date) {m l x : List ℕ} {r : PlainWritten} → m ≡ l
    → (r ≡ written (date_answer d (date_text d) (length m))) × (x ≡ date_afterwards d (date_text d) m)
    → (r ≡ written (date_answer d (date_text d) (length l))) × (x ≡ date_afterwards d (date_text d) l)
written-into d {x = x} {r = r} e h =
    subst (λ (k : List ℕ). (r ≡ written (date_answer d (date_text d) (length k))) × (x ≡ date_afterwards d (date_text d) k)) e h
