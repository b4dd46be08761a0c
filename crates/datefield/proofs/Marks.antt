-- A text with its mark, by what is known of its last byte.
-- Assumes nothing.
use mathlib.Core.Path.{◌≡◌, ◌∙◌}
use mathlib.Core.Bool.{Bool, true, false, false≢true, ◌||◌}
use mathlib.Core.List.{List, [], ◌∷◌}
use Prim.Native.Nat.{ℕ, ◌-◌, ◌<◌}
use native.Mathlib.Omega.{arith}
use lib.ListN.{length, take}
use lib.Seq.{take-length}
use Rattle.chars.specs.Pick.{pick}
use Rattle.refusals.specs.declared.FileSpan.{FileSpan}
use Rattle.dates.specs.declared.Date.{Date}
use Rattle.dates.specs.declared.DateValue.{DateValue}
use Rattle.refusals.specs.declared.Refusal.{Refusal}
use Rattle.std.specs.Prelude.{Result}
use Rattle.datefield.specs.Text.{last_byte, is_uncertain, is_approximate, unmarked}
use Rattle.datefield.specs.Value.{value, marked, trimmed_date}

-- a text that ends with a mark is not empty
ends_some : (s : List ℕ) → is_uncertain (last_byte s) || is_approximate (last_byte s) ≡ true → 0 < length s
unfolding is_uncertain is_approximate last_byte
ends_some [] e = absurd (false≢true e)
ends_some (x ∷ t) e = omega arith

-- what the calls said of the last byte
module _ (s : List ℕ) {u a : Bool} (f : u ≡ is_uncertain (last_byte s)) (g : a ≡ is_approximate (last_byte s)) where
  pub mark-some : u || a ≡ true → 0 < length s
  mark-some t = ends_some s (rw (← f, ← g) t)

  pub mark-last : u || a ≡ true → take (length s - 1) s ≡ unmarked s
  unfolding unmarked pick
  mark-last t = rw (← f, ← g, t)

  pub mark-none : u || a ≡ false → take (length s) s ≡ unmarked s
  unfolding unmarked pick
  mark-none t = rw (← f, ← g, t, take-length s)

  pub mark-date : (span : FileSpan) {t : List ℕ} {v : Result DateValue Refusal} {r : Result Date Refusal} → t ≡ unmarked s → v ≡ value span t → r ≡ marked u a v → r ≡ trimmed_date span s
  unfolding trimmed_date
  mark-date span h k l = l ∙ rw (f, g, k, h)
