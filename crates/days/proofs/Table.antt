-- The rule of the table, which antt computes once. Assumes nothing.
use mathlib.Core.Path.{◌≡◌, refl, sym, ap, ◌∙◌}
use mathlib.Core.Bool.{Bool, true, false}
use mathlib.Core.List.{List, [], ◌∷◌}
use Prim.Native.Nat.{ℕ, zero, suc, ◌+◌, ◌*◌, ◌≤◌, ◌<◌}
use native.Mathlib.Nat.{add-zero, add-suc, suc-add, zero-add, not-suc-le-zero, le_of_suc-le-suc}
use native.Mathlib.Omega.{arith}
use lib.Dec.{T, eqb, eqb→eq}
use lib.ListN.{length, get_or, take, drop}
use lib.Seq.{get_or-take, get_or-drop}
use Rattle.dates.specs.Calendar.{multiple, leap_year, february, month_lengths, month_length}
use Rattle.days.specs.Counts.{length_at, months_to}
use Rattle.days.specs.Table.{table}

abbrev both : Bool → Bool → Bool
both true b = b
both false b = false

left : (a b : Bool) → T (both a b) → T a
left true b t = tt
left false b t = t

right : (a b : Bool) → T (both a b) → T b
right true b t = t
right false b t = absurd t

-- from place i on, where the sum is n, each entry is the sum so far, and at the end it is the whole
abbrev follows : ℕ → ℕ → ℕ → List ℕ → Bool
follows whole i n [] = eqb n whole
follows whole i n (x ∷ xs) = both (eqb x n) (follows whole (suc i) (n + length_at i) xs)

months-next : (i : ℕ) → months_to (suc i) ≡ months_to i + length_at i
unfolding months_to
months-next i = refl

months-first : 0 ≡ months_to 0
unfolding months_to
months-first = refl

module _ (whole : ℕ) where
  at : (xs : List ℕ) (i n : ℕ) → n ≡ months_to i → T (follows whole i n xs) → (k : ℕ) → k < length xs → get_or xs k 0 ≡ months_to (i + k)
  at [] i n e t k h = absurd (not-suc-le-zero h)
  at (x ∷ xs) i n e t zero h = eqb→eq x n (left (eqb x n) (follows whole (suc i) (n + length_at i) xs) t) ∙ e ∙ ap months_to (sym (add-zero i))
  at (x ∷ xs) i n e t (suc k) h =
      at xs (suc i) (n + length_at i) (ap (λ (m : ℕ). m + length_at i) e ∙ sym (months-next i)) (right (eqb x n) (follows whole (suc i) (n + length_at i) xs) t) k (le_of_suc-le-suc h)
      ∙ ap months_to (suc-add i k ∙ sym (add-suc i k))

  at-end : (xs : List ℕ) (i n : ℕ) → n ≡ months_to i → T (follows whole i n xs) → months_to (i + length xs) ≡ whole
  at-end [] i n e t = ap months_to (add-zero i) ∙ sym e ∙ eqb→eq n whole t
  at-end (x ∷ xs) i n e t =
      ap months_to (add-suc i (length xs) ∙ sym (suc-add i (length xs)))
      ∙ at-end xs (suc i) (n + length_at i) (ap (λ (m : ℕ). m + length_at i) e ∙ sym (months-next i)) (right (eqb x n) (follows whole (suc i) (n + length_at i) xs) t)

-- the one test, over all entries
tested : T (follows 146097 0 0 table)
unfolding table length_at month_length month_lengths february leap_year multiple
tested = tt

pub long : length table ≡ 4800
unfolding table
long = refl

-- an entry is the days before its month
pub entry-is : (k : ℕ) → k < 4800 → get_or table k 0 ≡ months_to k
entry-is k h = at 146097 table 0 0 months-first tested k (rw long h) ∙ ap months_to (zero-add k)

-- the rule: the first entry is 0, each entry plus its month's length is the next, and the last plus its month's length is the whole cycle
pub starts : get_or table 0 0 ≡ 0
starts = entry-is 0 (omega arith) ∙ sym months-first

pub rule : (k : ℕ) → suc k < 4800 → get_or table k 0 + length_at k ≡ get_or table (suc k) 0
rule k h = ap (λ (m : ℕ). m + length_at k) (entry-is k (omega arith)) ∙ sym (months-next k) ∙ sym (entry-is (suc k) h)

pub whole : months_to 4800 ≡ 146097
whole = ap months_to (ap (λ (k : ℕ). 0 + k) (sym long)) ∙ at-end 146097 table 0 0 months-first tested

pub ends : get_or table 4799 0 + length_at 4799 ≡ 146097
ends = ap (λ (m : ℕ). m + length_at 4799) (entry-is 4799 (omega arith)) ∙ sym (months-next 4799) ∙ whole

-- the entries of the four years from year 4q on; each is one of the table
abbrev pub four_years : ℕ → List ℕ
four_years q = take 48 (drop (q * 48) table)

pub in-four-years : (q j : ℕ) → j < 48 → get_or (four_years q) j 0 ≡ get_or table (q * 48 + j) 0
in-four-years q j h = get_or-take 48 (drop (q * 48) table) j 0 h ∙ get_or-drop (q * 48) table j 0

-- what the last arm of a match knows: the number is none of those below n
abbrev pub Apart : ℕ → ℕ → Type 0
Apart zero q = Unit {0}
Apart (suc n) q = Apart n q × (q ≡ n → ⊥)

above : (n q : ℕ) → Apart n q → n ≤ q
above zero q h = omega arith
above (suc n) q h = omega (arith, above n q h.0, h.1)

pub last : (n q : ℕ) → Apart n q → q < suc n → n ≡ q
last n q h b = omega (arith, above n q h, b)
