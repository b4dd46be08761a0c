-- What both readers answer of a cell, and what is said by it. Assumes nothing.
use mathlib.Core.Path.{◌≡◌, refl, sym, subst}
use mathlib.Core.Bool.{true}
use mathlib.Core.List.{List}
use mathlib.Core.Logic.{⊎_elim}
use Prim.Native.Nat.{ℕ, ◌<◌, ◌-◌, ◌%◌}
use native.Mathlib.Omega.{arith}
use lib.IntN.{pos}
use borrow.Author.Tests.{eq-eqb, ne_eqb}
use Rattle.chars.specs.Pick.{pick}
use Rattle.dates.specs.declared.Day.{Day}
use Rattle.std.specs.Prelude.{Option, Some, None, Result, Ok, Err}
use Rattle.dates.specs.declared.Date.{Date}
use Rattle.dates.specs.Calendar.{month_length}
use Rattle.refusals.specs.declared.Refusal.{Refusal}
use Rattle.codes.specs.Words.{flag, words_of}
use Rattle.codes.proofs.Unpacking.{flag-in, shape-part}
use Rattle.reading_laws.specs.Field.{parsed, parsed_strict}
use Rattle.roundtrip_laws.specs.Domain.{ShortText}
use Rattle.roundtrip_laws.specs.Domain.ShortText.{short_text}
use Rattle.roundtrip_laws.specs.Domain.ShortDays.{dddd_mm_XX}
use Rattle.roundtrip_laws.proofs.Theorems.{agrees, short-differ}
use Rattle.verdicts.specs.declared.Verdict.{Verdict}
use Rattle.verdicts.specs.declared.Verdict.TheVariants.{Full, NotStrict, Refused}
use Rattle.verdicts.specs.Dates.{cell_table, end_day, same_day, is_same, by_readers}

-- the strict reader's answer, the ported one's, and the verdict: the same Date, two Dates, one of the ported reader alone, or none
pub data Both : Result Date Refusal → Result Date Refusal → Verdict → Type 0 where
  agreed : {d : Date} → Both (Ok d) (Ok d) Full
  differs : {d e : Date} → (d ≡ e → ⊥) → Both (Ok d) (Ok e) (NotStrict e)
  alone : {f : Refusal} {e : Date} → Both (Err f) (Ok e) (NotStrict e)
  neither : {f g : Refusal} → Both (Err f) (Err g) (Refused g)

-- a day is the same as itself
same_self : (a : Option Day) → same_day a a ≡ true
unfolding same_day
same_self None = refl
same_self (Some a) = eq-eqb a.0 a.0 refl

-- so one Date from both is full,
pub full-of : {x y : Result Date Refusal} {d : Date} → x ≡ Ok d → y ≡ Ok d → by_readers x y ≡ Full
unfolding by_readers is_same pick
full-of {d = d} p q = rw (p, q, same_self (end_day d.value))

-- and the days of a short month, which end on another day for each reader, are not
short-said : {s : List ℕ} {d e : Date} → ShortText s d e → by_readers (Ok d) (Ok e) ≡ NotStrict e
unfolding by_readers is_same end_day same_day pick
short-said (short_text (dddd_mm_XX {m = m} n h f k) mark) =
    rw (ne_eqb (month_length m (pos n) - 1) 30 (λ (z : month_length m (pos n) - 1 ≡ 30). omega arith))

-- these are a range with both ends, which is seen from its words
short-shape : {s : List ℕ} {d e : Date} → ShortText s d e → (words_of (Ok d)).last % 256 ≡ 3
short-shape (short_text {u = u} {a = a} (dddd_mm_XX n h f k) mark) =
    let p = flag-in u in
    let q = flag-in a in
    shape-part 3 (flag u) (flag a) 0 (omega arith) (omega arith) (omega arith) (omega arith)

-- two answers with their verdict
abbrev pub Answered : Result Date Refusal → Result Date Refusal → Type 0
Answered x y = Both x y (by_readers x y)

-- those of a cell
module _ (s : List ℕ) where
  by-strict : (d : Date) → parsed_strict s (cell_table s) ≡ Ok d → Answered (Ok d) (parsed s (cell_table s))
  by-strict d p =
      ⊎_elim
      (λ q. subst (Answered (Ok d)) (sym q) (subst (Both (Ok d) (Ok d)) (sym (full-of refl refl)) agreed))
      (λ t. subst (Answered (Ok d)) (sym t.2) (subst (Both (Ok d) (Ok t.0)) (sym (short-said t.1)) (differs (short-differ t.1))))
      (agrees s (cell_table s) p)

  by-answers : (x y : Result Date Refusal) → parsed_strict s (cell_table s) ≡ x → parsed s (cell_table s) ≡ y → Answered x y
  unfolding by_readers is_same pick
  by-answers (Ok d) y p q = subst (Answered (Ok d)) q (by-strict d p)
  by-answers (Err f) (Ok e) p q = alone
  by-answers (Err f) (Err g) p q = neither

  pub both : Answered (parsed_strict s (cell_table s)) (parsed s (cell_table s))
  both = by-answers _ _ refl refl

  -- a strict date is full if its words say that it is no range with both ends
  pub point-full : {d : Date} → parsed_strict s (cell_table s) ≡ Ok d → (words_of (Ok d)).last % 256 < 3 → by_readers (parsed_strict s (cell_table s)) (parsed s (cell_table s)) ≡ Full
  point-full p h =
      ⊎_elim (λ q. full-of p q) (λ t. absurd (omega (arith, h, short-shape t.1))) (agrees s (cell_table s) p)
