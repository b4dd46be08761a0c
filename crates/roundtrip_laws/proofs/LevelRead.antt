-- What the reader of level one accepts: by derivation, and what each end of it is. Assumes nothing.
use mathlib.Core.Path.{◌≡◌, refl, sym, ap, ◌∙◌}
use mathlib.Core.Bool.{true, false, false≢true}
use mathlib.Core.List.{List}
use mathlib.Core.Logic.{◌↔◌}
use Prim.Native.Nat.{ℕ, zero, suc, ◌+◌, ◌-◌, ◌^◌, ◌≤◌, ◌<◌}
use native.Mathlib.Nat.{pow-succ', add-suc}
use native.Mathlib.Omega.{arith}
use lib.IntN.{ℤ, nat_abs}
use Rattle.refusals.specs.declared.Kind.TheVariants.{NotLevelOne}
use Rattle.refusals.specs.Refusal.{file_span, refusal}
use Rattle.std.specs.Prelude.{Option, Some, None, Ok, Err}
use Rattle.chunks.specs.Check.{checked}
use Rattle.chunks.specs.Format.{formatted}
use Rattle.dates.specs.declared.Datetime.{Datetime}
use Rattle.dates.specs.declared.DateValue.{DateValue}
use Rattle.dates.specs.declared.Date.{Date}
use Rattle.dates.specs.Value.{is_season, has_season, any_season}
use Rattle.strict.specs.Grammar.{Point, Value, alone, between, after, before, unknown, Text, text}
use Rattle.strict.specs.Level.{season_at, LongYear, Yd, Y_d, LevelPoint, strictly, season, long, LevelText}
use Rattle.strict.specs.LevelMatcher.{level}
use Rattle.strict.proofs.Runs.{nine-digits}
use Rattle.strict.proofs.Level.{level-exact, level-refused, strict-level}
use Rattle.reading_laws.specs.Field.{on_clean, leveled, parsed_level_one, parsed_strict}
use Rattle.dates.specs.Ends.{EachEnd}
use Rattle.dates.proofs.Ends.{each-end}
use Rattle.writer.proofs.Pieces.{first-false, second-false}
use Rattle.roundtrip_laws.specs.Level.{Given, on_calendar, in_season, long_year, Alone, ShortYear}
use Rattle.roundtrip_laws.specs.Domain.{AllDated}
use Rattle.roundtrip_laws.proofs.StrictRead.{Fault, bad_utf8, unsupported, bad_chunks, too_long, clean-accepts, clean-refuses, strict-accepts}
use Rattle.roundtrip_laws.proofs.Strictly.{negated, year_in, point-dated, unknown-dated}

-- ---- accepted and refused, exactly

no-fault : Fault 23 → ⊥
no-fault f = go f refl
  where
    go : {n : ℕ} → Fault n → n ≡ 23 → ⊥
    go bad_utf8 e = omega arith
    go unsupported e = omega arith
    go bad_chunks e = omega arith
    go too_long e = omega arith

matched-is : (m : Option Date) {d : Date} → leveled m ≡ Ok d → m ≡ Some d
unfolding leveled
matched-is (Some c) e = cc
matched-is None e = let z : ◌≡◌ {A = ℕ} 0 1 = cc in absurd (omega arith)

unmatched-is : (m : Option Date) → leveled m ≡ Err (refusal NotLevelOne (file_span 0 0)) → m ≡ None
unfolding leveled
unmatched-is (Some c) e = let z : ◌≡◌ {A = ℕ} 0 1 = cc in absurd (omega arith)
unmatched-is None e = refl

-- a Date is accepted exactly if the list passes the checks and the grammar derives that Date from its text
pub level-accepts : (b table : List ℕ) (d : Date) → (parsed_level_one b table ≡ Ok d) ↔ ((checked b table ≡ (Ok tt)) × LevelText (formatted b table) d)
unfolding parsed_level_one on_clean leveled
level-accepts b table d = (
  λ e. let p = clean-accepts (checked b table) {r = leveled (level (formatted b table))} e in (p.0, (level-exact (formatted b table) d).0 (matched-is (level (formatted b table)) p.1)),
  λ (p : (checked b table ≡ (Ok tt)) × LevelText (formatted b table) d). rw (p.0, (level-exact (formatted b table) d).1 p.1),
)

-- NotLevelOne is answered exactly if the list passes the checks and nothing derives its text
pub level-refuses : (b table : List ℕ) → (parsed_level_one b table ≡ Err (refusal NotLevelOne (file_span 0 0))) ↔ ((checked b table ≡ (Ok tt)) × ((d : Date) → LevelText (formatted b table) d → ⊥))
unfolding parsed_level_one on_clean leveled
level-refuses b table = (
  λ e. let p = clean-refuses b table {r = leveled (level (formatted b table))} NotLevelOne no-fault e in (p.0, (level-refused (formatted b table)).0 (unmatched-is (level (formatted b table)) p.1)),
  λ (p : (checked b table ≡ (Ok tt)) × ((d : Date) → LevelText (formatted b table) d → ⊥)). rw (p.0, (level-refused (formatted b table)).1 p.1),
)

pub level-derivation : (b table : List ℕ) {d : Date} → parsed_level_one b table ≡ Ok d → LevelText (formatted b table) d
level-derivation b table {d} e = ((level-accepts b table d).0 e).1

-- ---- what an end is

season-there : (n : ℕ) → is_season (season_at n) ≡ true
unfolding season_at
season-there zero = refl
season-there (suc zero) = refl
season-there (suc (suc zero)) = refl
season-there (suc (suc (suc n))) = refl

ten-thousand : (k : ℕ) → 10000 ≤ 10 ^ (4 + k)
ten-thousand zero = omega arith
ten-thousand (suc k) = let p = pow-succ' 10 (4 + k) in omega (arith, ten-thousand k, ap (λ (j : ℕ). 10 ^ j) (add-suc 4 k))

long-least : (w n : ℕ) → 4 ≤ w → 10 ^ w ≤ n → 10000 ≤ n
long-least w n h l = let e : 4 + (w - 4) ≡ w = omega arith in omega (arith, ten-thousand (w - 4), ap (λ (k : ℕ). 10 ^ k) e)

long-in : {s : List ℕ} {y : ℤ} → LongYear s y → (10000 ≤ nat_abs y) × (nat_abs y < 1000000000)
long-in (Yd w n lo hi h k) = (long-least w n lo h, nine-digits (suc w) n k (omega arith))
long-in (Y_d w n lo hi h k) = rw (negated n) (long-least w n lo h, nine-digits (suc w) n k (omega arith))

point-given : {s : List ℕ} {a : Datetime} → LevelPoint s a → Given a
point-given (strictly p) = on_calendar (point-dated p)
point-given (season {n = n} y f) = in_season (year_in y) (season-there n)
point-given (long y) = let h = long-in y in long_year h.0 h.1

all-given : (v : DateValue) → AllDated v → EachEnd Given v
all-given v w = each-end (λ a p. on_calendar p) v w

value-given : {s : List ℕ} {v : DateValue} → Value LevelPoint s v → EachEnd Given v
value-given (alone p) = point-given p
value-given (between p q) = (point-given p, point-given q)
value-given (after p) = point-given p
value-given (before p) = point-given p
value-given {v = v} (unknown x) = all-given v (unknown-dated x)

text-given : {s : List ℕ} {d : Date} → LevelText s d → EachEnd Given d.value
text-given (text v m) = value-given v

-- every end of an accepted Date
pub level-given : (b table : List ℕ) {d : Date} → parsed_level_one b table ≡ Ok d → EachEnd Given d.value
level-given b table e = text-given (level-derivation b table e)

given-alone : (a : Datetime) → Given a → Alone a
given-alone a (on_calendar w) e = absurd (false≢true (sym (ap is_season w.unseasoned) ∙ e))
given-alone a (in_season h s) e = (refl, refl, refl)
given-alone a (long_year h k) e = absurd (false≢true e)

pub season-alone : (b table : List ℕ) {d : Date} → parsed_level_one b table ≡ Ok d → EachEnd Alone d.value
season-alone b table {d} e = each-end given-alone d.value (level-given b table e)

-- ---- beside the strict reader

-- what the strict reader accepts is accepted with the same Date
pub strict-accepted : (b table : List ℕ) {d : Date} → parsed_strict b table ≡ Ok d → parsed_level_one b table ≡ Ok d
strict-accepted b table {d} e = let p = (strict-accepts b table d).0 e in (level-accepts b table d).1 (p.0, strict-level p.1)

point-strict : {s : List ℕ} {a : Datetime} → LevelPoint s a → has_season a ≡ false → ShortYear a → Point s a
point-strict (strictly p) e h = p
point-strict (season {n = n} y f) e h = absurd (false≢true (sym e ∙ season-there n))
point-strict (long y) e h = absurd (omega (arith, (long-in y).0))

value-strict : {s : List ℕ} {v : DateValue} → Value LevelPoint s v → any_season v ≡ false → EachEnd ShortYear v → Value Point s v
value-strict (alone p) e h = alone (point-strict p e h)
value-strict (between {a = a} {b = b} p q) e h = between (point-strict p (first-false (has_season a) (has_season b) e) h.0) (point-strict q (second-false (has_season a) (has_season b) e) h.1)
value-strict (after p) e h = after (point-strict p e h)
value-strict (before p) e h = before (point-strict p e h)
value-strict (unknown x) e h = unknown x

text-strict : {s : List ℕ} {d : Date} → LevelText s d → any_season d.value ≡ false → EachEnd ShortYear d.value → Text s d
text-strict (text v m) e h = text (value-strict v e h) m

-- what is accepted without a season and with years of at most four digits, the strict reader accepts alike
pub accepted-strict : (b table : List ℕ) {d : Date} → parsed_level_one b table ≡ Ok d → any_season d.value ≡ false → EachEnd ShortYear d.value → parsed_strict b table ≡ Ok d
accepted-strict b table {d} e q h = let p = (level-accepts b table d).0 e in (strict-accepts b table d).1 (p.0, text-strict p.1 q h)
