-- Plain cells and strict texts, as the code finds them. Assumes nothing.
use mathlib.Core.Path.{◌≡◌, refl, ap}
use mathlib.Core.Bool.{false}
use mathlib.Core.List.{List, [], ◌∷◌}
use Prim.Native.Nat.{ℕ}
use native.Mathlib.Omega.{arith}
use lib.Dec.{ltb}
use lib.ListN.{length, get_or, drop}
use borrow.Author.Tests.{lt-ltb, le-ltb, eq-eqb, ne_eqb}
use Rattle.chars.specs.Pick.{pick}
use Rattle.dates.specs.declared.Date.{Date}
use Rattle.refusals.specs.declared.Refusal.{Refusal}
use Rattle.std.specs.Prelude.{Result, Ok, Err}
use Rattle.codes.specs.declared.Words.{Words}
use Rattle.codes.specs.Words.{words_of}
use Rattle.codes.proofs.Laws.{accepted-last, refused-last}
use Rattle.verdicts.specs.Plain.{is_digits, is_full_year, is_accepted, is_strict_text, written_text, is_strict}
use Rattle.verdicts.proofs.Empty.{strict_none}

-- the empty text is no full year
pub full-none : (s : List ℕ) → length s ≡ 0 → is_full_year s ≡ false
unfolding is_full_year
full-none [] e = refl
full-none (b ∷ s) e = absurd (omega arith)

-- behind a minus four digits
pub full-minus : (s : List ℕ) → (length s ≡ 0 → ⊥) → get_or s 0 0 ≡ 45 → is_full_year s ≡ is_digits 4 4 (drop 1 s)
unfolding is_full_year pick
full-minus [] n e = absurd (n refl)
full-minus (b ∷ s) n e = rw (eq-eqb b 45 e)

-- or four digits alone
pub full-else : (s : List ℕ) → (length s ≡ 0 → ⊥) → (get_or s 0 0 ≡ 45 → ⊥) → is_full_year s ≡ is_digits 4 4 s
unfolding is_full_year pick
full-else [] n e = absurd (n refl)
full-else (b ∷ s) n e = rw (ne_eqb b 45 e)

-- whether a reader accepts is seen from its words
pub by-words : {w : Words} (x : Result Date Refusal) → w ≡ words_of x → ltb w.last 4294967296 ≡ is_accepted x
unfolding is_accepted
by-words {w} (Ok d) e = lt-ltb w.last 4294967296 (omega (arith, ap (λ (v : Words). v.last) e, accepted-last d))
by-words {w} (Err f) e = le-ltb w.last 4294967296 (omega (arith, ap (λ (v : Words). v.last) e, refused-last f))

-- a Date without a text is not strict
pub none-strict : (d : Date) → written_text d ≡ [] → is_strict d ≡ false
unfolding is_strict is_strict_text is_accepted
none-strict d e = rw (e, strict_none)
