-- What three fields say at once, by the words of their parts. Assumes nothing.
use mathlib.Core.Path.{◌≡◌, refl, ap}
use Prim.Native.Nat.{ℕ, ◌+◌, ◌<◌}
use native.Mathlib.Omega.{arith}
use lib.IntN.{ℤ}
use Rattle.chunks.specs.Lent.{Three}
use Rattle.dates.specs.declared.Date.{Date}
use Rattle.dates.specs.declared.Day.{Day}
use Rattle.dates.specs.declared.Month.{Month}
use Rattle.refusals.specs.declared.Refusal.{Refusal}
use Rattle.std.specs.Prelude.{None, Result, Ok, Option, Some}
use Rattle.dates.specs.Value.{datetime, from_datetime}
use Rattle.codes.specs.declared.Words.{Words}
use Rattle.codes.specs.Words.{nothing, year_word, month_word, day_part_word, words, words_or}
use Rattle.codes.specs.Typed.{Typed, DatetimeTyped}
use Rattle.codes.specs.Points.{on_some}
use Rattle.codes.specs.Parts.{year_part}
use Rattle.codes.specs.Lists.{on_normal, month_or, day_or, list_three}
use Rattle.codes.proofs.Unpacking.{twos_in, month-flag, day-flag}
use Rattle.code_laws.proofs.Three.{three-typed}

-- the words of three parts, and of what they say together
pub record Joined (y m d : ℕ) (v : Words) : Type 0 where
  pub no_year : y ≡ nothing → words_or None ≡ v
  pub no_month : m ≡ nothing → words_or None ≡ v
  pub no_day : d ≡ nothing → words_or None ≡ v
  pub said : (y ≡ nothing → ⊥) → (m ≡ nothing → ⊥) → (d ≡ nothing → ⊥) → words 0 0 (y + m + d) 0 0 0 0 ≡ v
  pub room : (y ≡ nothing → ⊥) → (m ≡ nothing → ⊥) → (d ≡ nothing → ⊥) → y + m + d < 18446744073709551616

together : Option ℤ → Option (Option Month) → Option (Option Day) → Option (Result Date Refusal)
together x a b = on_some x λ y. on_some a λ m. on_some b λ d. Some (Ok (from_datetime (datetime y m d None)))

joined_by : (x : Option ℤ) (a : Option (Option Month)) (b : Option (Option Day)) → ((r : Result Date Refusal) → together x a b ≡ Some r → Typed r)
    → Joined (year_word x) (month_word a) (day_part_word b) (words_or (together x a b))
unfolding together on_some
joined_by None a b typed =
    record { no_year = λ e. refl; no_month = λ e. refl; no_day = λ e. refl; said = λ f g h. absurd (f refl); room = λ f g h. absurd (f refl) }
joined_by (Some y) None b typed =
    record { no_year = λ e. refl; no_month = λ e. refl; no_day = λ e. refl; said = λ f g h. absurd (g refl); room = λ f g h. absurd (g refl) }
joined_by (Some y) (Some m) None typed =
    record { no_year = λ e. refl; no_month = λ e. refl; no_day = λ e. refl; said = λ f g h. absurd (h refl); room = λ f g h. absurd (h refl) }
joined_by (Some y) (Some m) (Some d) typed =
    let h : DatetimeTyped (datetime y m d None) = typed _ refl in
    let t = twos_in y h.year_typed in
    let (i, (j, _)) = h.bytes_typed in
    let k = month-flag m in
    let l = day-flag d in
    record {
      no_year = λ e. absurd (omega (arith, e, t));
      no_month = λ e. absurd (omega (arith, e, i, k));
      no_day = λ e. absurd (omega (arith, e, j, l));
      said = λ f g z. ap (λ (n : ℕ). words 0 0 n 0 0 0 0) (omega arith);
      room = λ f g z. omega (arith, t, i, j, k, l);
    }

pub joined : (t : Three) {y m d : ℕ} → y ≡ year_word (on_normal t.year year_part) → m ≡ month_word (month_or t.month) → d ≡ day_part_word (day_or t.month t.day)
    → Joined y m d (words_or (list_three t))
unfolding list_three together
joined t e f g = rw (e, f, g) (joined_by (on_normal t.year year_part) (month_or t.month) (day_or t.month t.day) (λ r e. three-typed t e))
