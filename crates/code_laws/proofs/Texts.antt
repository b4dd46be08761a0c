-- What a usual text says: it is derived by the strict grammar, the ported reader reads it so too, and without a time it is the written text of
-- its Date. By its ends, then as a point or range, then with its mark.
-- Assumes nothing.
use mathlib.Core.Path.{◌≡◌, refl, sym, ap, ◌∙◌, subst}
use mathlib.Core.Bool.{Bool, true, false, ◌||◌}
use mathlib.Core.List.{List, [], ◌∷◌, ◌++◌, append-nil, append_assoc}
use Prim.Native.Nat.{ℕ, suc, ◌+◌, ◌-◌, ◌<◌}
use native.Mathlib.Omega.{arith}
use lib.Dec.{eqb, ltb}
use lib.ListN.{length, get_or, take, drop, take-append-drop, drop_of_length-le, get_or-eq_default}
use lib.Seq.{drop-cons}
use borrow.Author.Tests.{eqb-true, ltb-true, ltb-false}
use Rattle.chars.specs.Pick.{pick}
use Rattle.chars.proofs.Cases.{by-test, of_test, and-true}
use Rattle.chars.proofs.Spelled.{drop-same, entries}
use Rattle.refusals.specs.declared.FileSpan.{FileSpan}
use Rattle.refusals.specs.declared.Refusal.{Refusal}
use Rattle.std.specs.Prelude.{None, Result, Ok, Option, Some}
use Rattle.dates.specs.declared.Datetime.{Datetime}
use Rattle.dates.specs.declared.DateValue.{DateValue}
use Rattle.dates.specs.declared.DateValue.TheVariants.{At, After, Before, Between}
use Rattle.dates.specs.declared.Date.{Date}
use Rattle.dates.specs.Domain.{EndIn}
use Rattle.dates.specs.Ends.{EachEnd}
use Rattle.dates.specs.Value.{date}
use Rattle.puts.specs.Marks.{mark_text}
use Rattle.writer.specs.Texts.{parts_of, end_panics, value_panics, panics, datetime_text, value_text, date_text}
use Rattle.datefield.specs.Text.{last_byte, is_uncertain, is_approximate, unmarked, is_dots}
use Rattle.datefield.specs.Value.{moved, on_half, value, marked, parse_text}
use Rattle.strict.specs.Grammar.{Point, Value, alone, between, after, before, Text, text}
use Rattle.strict.proofs.Written.{derived}
use Rattle.codes.specs.Points.{point_of, time_of, day_point}
use Rattle.codes.specs.Texts.{is_slash, slash_of, halves, timed, value_of, written}
use Rattle.codes.specs.Typed.{DatetimeTyped}
use Rattle.roundtrip_laws.specs.Domain.{InDomain, Untimed}
use Rattle.roundtrip_laws.proofs.Points.{point-read, point-text}
use Rattle.roundtrip_laws.proofs.Values.{alone-value, between-value, after-value, before-value}
use Rattle.roundtrip_laws.proofs.Trims.{text-marked}
use Rattle.roundtrip_laws.proofs.Derived.{canonical-is, mark-derived}
use Rattle.roundtrip_laws.proofs.Agrees.{value-text}
use Rattle.roundtrip_laws.proofs.Strictly.{point-dated}
use Rattle.roundtrip_laws.proofs.Stored.{calendar-written}
use Rattle.code_laws.proofs.Points.{by-some, Said, Finding, finding, Timed, FindingTimed, finding-timed}
use Rattle.code_laws.proofs.Typed.{point-typed}

-- ---- one end

-- what a text of one end says: it is derived, and without a time it is the written text
record EndSaid (s : List ℕ) (d : Datetime) : Type 0 where
  by_grammar : Point s d
  back : d.time ≡ None → EndIn d × (datetime_text d ≡ s)

plain-untimed : (s : List ℕ) {d : Datetime} → point_of s ≡ Some d → d.time ≡ None
plain-untimed s {d} e = let p : Said s d = subst (Finding s) e (finding s) in p.end_in.untimed

plain_end : (s : List ℕ) {d : Datetime} → point_of s ≡ Some d → EndSaid s d
plain_end s {d} e =
    let p : Said s d = subst (Finding s) e (finding s) in
    record {
      by_grammar = subst (λ (u : List ℕ). Point u d) (sym p.text_is) (derived d p.end_in);
      back = λ _. (p.end_in, canonical-is d p.end_in ∙ sym p.text_is);
    }

timed-end : {s : List ℕ} {d : Datetime} → Timed s d → EndSaid s d
timed-end (Timed.timed {t = t} e p) =
    record { by_grammar = p; back = λ n. let z : ◌≡◌ {A = ℕ} 0 1 = cc in absurd (omega arith) }

end-calm : {s : List ℕ} {d : Datetime} → EndSaid s d → end_panics d ≡ false
unfolding end_panics parts_of
end-calm {d = d} e = calendar-written d.year d.month d.day (point-dated e.by_grammar).parts_in

-- ---- a point or range

-- a range has no time
abbrev pub Ranged : DateValue → Type 0
Ranged (At a) = Unit {0}
Ranged (After a) = a.time ≡ None
Ranged (Before a) = a.time ≡ None
Ranged (Between a b) = (a.time ≡ None) × (b.time ≡ None)

-- what a text without its mark says
record ValueSaid (s : List ℕ) (v : DateValue) : Type 0 where
  by_grammar : Value Point s v
  ported : (span : FileSpan) → value span s ≡ Ok v
  back : Untimed v → InDomain v × (value_text v ≡ s)
  calm : value_panics v ≡ false
  ranged : Ranged v
  typed : EachEnd DatetimeTyped v

module _ {s : List ℕ} {a : Datetime} (e : EndSaid s a) where
  alone-said : ValueSaid s (At a)
  unfolding moved on_half value_text value_panics
  alone-said =
      let p = e.by_grammar in
      record {
        by_grammar = alone p;
        ported = λ span. rw (alone-value span (point-text p), point-read p);
        back = e.back;
        calm = end-calm e;
        ranged = tt;
        typed = point-typed p;
      }

  after-said : a.time ≡ None → ValueSaid (s ++ 47 ∷ 46 ∷ 46 ∷ []) (After a)
  unfolding moved on_half value_text value_panics
  after-said n =
      let p = e.by_grammar in
      record {
        by_grammar = after p;
        ported = λ span. rw (after-value span (point-text p), point-read p);
        back = λ _. ((e.back n).0, ap (λ (u : List ℕ). u ++ 47 ∷ 46 ∷ 46 ∷ []) (e.back n).1);
        calm = end-calm e;
        ranged = n;
        typed = point-typed p;
      }

  before-said : a.time ≡ None → ValueSaid (46 ∷ 46 ∷ 47 ∷ s) (Before a)
  unfolding moved on_half value_text value_panics
  before-said n =
      let p = e.by_grammar in
      record {
        by_grammar = before p;
        ported = λ span. rw (before-value span (point-text p), point-read p);
        back = λ _. ((e.back n).0, ap (λ (u : List ℕ). 46 ∷ 46 ∷ 47 ∷ u) (e.back n).1);
        calm = end-calm e;
        ranged = n;
        typed = point-typed p;
      }

  between-said : {t : List ℕ} {b : Datetime} → a.time ≡ None → EndSaid t b → b.time ≡ None → ValueSaid (s ++ 47 ∷ t) (Between a b)
  unfolding moved on_half value_text value_panics
  between-said {t} {b} n f k =
      let p = e.by_grammar in
      let q = f.by_grammar in
      record {
        by_grammar = between p q;
        ported = λ span. rw (between-value span (point-text p) (point-text q), point-read p, point-read q);
        back = λ _.
            (((e.back n).0, (f.back k).0), append_assoc (datetime_text a) (47 ∷ []) (datetime_text b) ∙ rw ((e.back n).1, (f.back k).1));
        calm = rw (end-calm e, end-calm f);
        ranged = (n, k);
        typed = (point-typed p, point-typed q);
      }

abbrev Saying : List ℕ → Option DateValue → Type 0
Saying s (Some v) = ValueSaid s v
Saying s None = Unit {0}

-- two dots
dots-are : (s : List ℕ) → is_dots s ≡ true → s ≡ 46 ∷ 46 ∷ []
unfolding is_dots
dots-are s t =
    let p = and-true (eqb (length s) 2) _ t in
    let q = and-true (eqb (get_or s 0 0) 46) _ p.1 in
    sym (entries 2 s (eqb-true _ 2 p.0)) ∙ rw (eqb-true (get_or s 0 0) 46 q.0, eqb-true (get_or s 1 0) 46 q.1)

halves-said : (a b : List ℕ) → Saying (a ++ 47 ∷ b) (halves a b)
unfolding halves
halves-said a b =
    let S = Saying (a ++ 47 ∷ b) in
    by-test S (is_dots a)
    (λ t. by-some S (point_of b) tt λ d e. subst (λ (u : List ℕ). ValueSaid (u ++ 47 ∷ b) (Before d)) (sym (dots-are a t)) (before-said (plain_end b e) (plain-untimed b e)))
    (λ _.
    by-test S (is_dots b)
    (λ t. by-some S (point_of a) tt λ d e. subst (λ (u : List ℕ). ValueSaid (a ++ 47 ∷ u) (After d)) (sym (dots-are b t)) (after-said (plain_end a e) (plain-untimed a e)))
    (λ _. by-some S (point_of a) tt λ x e. by-some S (point_of b) tt λ y f. between-said (plain_end a e) (plain-untimed a e) (plain_end b f) (plain-untimed b f)))

-- a byte that is not 0 stands within the text
byte-in : (s : List ℕ) (k : ℕ) → 0 < get_or s k 0 → k < length s
byte-in s k h =
    of_test (ltb k (length s)) (λ t. ltb-true k (length s) t) λ t.
    let z = get_or-eq_default s 0 (ltb-false k (length s) t) in
    absurd (omega arith)

pub slash-text : (s : List ℕ) (k : ℕ) → is_slash s k ≡ true → take k s ++ 47 ∷ drop (k + 1) s ≡ s
unfolding is_slash
slash-text s k e =
    let c = eqb-true (get_or s k 0) 47 e in
    ap (λ (t : List ℕ). take k s ++ t)
    (ap (λ (c : ℕ). c ∷ drop (k + 1) s) (sym c) ∙ ap (λ (t : List ℕ). get_or s k 0 ∷ t) (drop-same s (k + 1) (suc k) (omega arith)) ∙ sym (drop-cons s k 0 (byte-in s k (omega arith))))
    ∙ take-append-drop k s

value-said : (s : List ℕ) → Saying s (value_of s)
unfolding value_of timed
value-said s =
    let S = Saying s in
    by-test S (is_slash s (slash_of s))
    (λ t. subst (λ (u : List ℕ). Saying u (halves (take (slash_of s) s) (drop (slash_of s + 1) s))) (slash-text s (slash_of s) t) (halves-said (take (slash_of s) s) (drop (slash_of s + 1) s)))
    (λ _.
    by-test S (ltb (length s) 19)
    (λ _. by-some S (point_of s) tt λ d e. alone-said (plain_end s e))
    (λ _. by-some S (time_of s) tt λ t e. by-some S (day_point s t) tt λ d f. alone-said (timed-end (subst (FindingTimed s) f (finding-timed s t e)))))

-- ---- the mark behind it

-- a text is what stands before its last byte, and that byte, if it is not 0
last-text : (s : List ℕ) (m : ℕ) → last_byte s ≡ m → 0 < m → take (length s - 1) s ++ m ∷ [] ≡ s
unfolding last_byte
last-text s m e h =
    let k = length s - 1 in
    let l = byte-in s k (omega arith) in
    ap (λ (t : List ℕ). take k s ++ t)
    (ap (λ (c : ℕ). c ∷ []) (sym e) ∙ ap (λ (t : List ℕ). get_or s k 0 ∷ t) (sym (drop_of_length-le s {i = suc k} (omega arith))) ∙ sym (drop-cons s k 0 l))
    ∙ take-append-drop k s

module _ (s : List ℕ) where
  one-mark : (m : ℕ) → last_byte s ≡ m → 0 < m → is_uncertain m || is_approximate m ≡ true → mark_text (is_uncertain m) (is_approximate m) ≡ m ∷ []
      → unmarked s ++ mark_text (is_uncertain (last_byte s)) (is_approximate (last_byte s)) ≡ s
  unfolding unmarked pick
  one-mark m e h t k = rw (e, t, k) (last-text s m e h)

  no_mark : is_uncertain (last_byte s) ≡ false → is_approximate (last_byte s) ≡ false → unmarked s ++ mark_text (is_uncertain (last_byte s)) (is_approximate (last_byte s)) ≡ s
  unfolding unmarked mark_text pick
  no_mark t k = rw (t, k) (append-nil s)

  mark-text : unmarked s ++ mark_text (is_uncertain (last_byte s)) (is_approximate (last_byte s)) ≡ s
  unfolding is_uncertain is_approximate mark_text
  mark-text =
      let c = last_byte s in
      of_test (eqb c 0x3F) (λ t. one-mark 0x3F (eqb-true c 0x3F t) (omega arith) refl refl) λ t.
      of_test (eqb c 0x25) (λ u. one-mark 0x25 (eqb-true c 0x25 u) (omega arith) refl refl) λ u.
      of_test (eqb c 0x7E) (λ v. one-mark 0x7E (eqb-true c 0x7E v) (omega arith) refl refl) λ v.
      no_mark (rw (t, u)) (rw (v, u))

-- what a whole text says
pub record TextSaid (s : List ℕ) (d : Date) : Type 0 where
  pub by_grammar : Text s d
  pub ported : (span : FileSpan) → parse_text span s ≡ Ok d
  pub back : Untimed d.value → InDomain d.value × (date_text d ≡ s)
  pub calm : panics d ≡ false
  pub ranged : Ranged d.value
  pub typed : EachEnd DatetimeTyped d.value

with-mark : {s : List ℕ} {v : DateValue} (u a : Bool) → ValueSaid s v → TextSaid (s ++ mark_text u a) (date v u a)
unfolding marked date_text panics
with-mark u a e =
    let m = mark-derived u a in
    record {
      by_grammar = text e.by_grammar m;
      ported = λ span. text-marked span (value-text e.by_grammar) m ∙ rw (e.ported span);
      back = λ n. ((e.back n).0, ap (λ (t : List ℕ). t ++ mark_text u a) (e.back n).1);
      calm = e.calm;
      ranged = e.ranged;
      typed = e.typed;
    }

-- an answer at once is a Date
pub data Answer (s : List ℕ) : Result Date Refusal → Type 0 where
  answer : {d : Date} → TextSaid s d → Answer s (Ok d)

abbrev Answers : List ℕ → Option (Result Date Refusal) → Type 0
Answers s (Some r) = Answer s r
Answers s None = Unit {0}

answers : (s : List ℕ) → Answers s (written s)
unfolding written
answers s =
    by-some (Answers s) (value_of (unmarked s)) tt λ v e.
    let u = is_uncertain (last_byte s) in
    let a = is_approximate (last_byte s) in
    answer (subst (λ (t : List ℕ). TextSaid t (date v u a)) (mark-text s) (with-mark u a (subst (Saying (unmarked s)) e (value-said (unmarked s)))))

pub said : {s : List ℕ} {r : Result Date Refusal} → written s ≡ Some r → Answer s r
said {s} e = subst (Answers s) e (answers s)
