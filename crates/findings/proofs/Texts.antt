-- The texts of a line, piece by piece. Assumes nothing.
use mathlib.Core.Path.{◌≡◌, refl, sym, ap, ◌∙◌}
use mathlib.Core.Bool.{Bool, true, false}
use mathlib.Core.List.{List, [], ◌∷◌, ◌++◌, append-nil, append_assoc}
use Prim.Native.Nat.{ℕ, ◌+◌, ◌/◌, ◌%◌, ◌≤◌, ◌<◌}
use native.Mathlib.Numerals.{add-one}
use native.Mathlib.Omega.{arith}
use lib.ListN.{length, get_or, take}
use lib.Seq.{take-suc}
use Rattle.chars.specs.Pick.{pick}
use Rattle.puts.specs.Numbers.{decimal}
use Rattle.puts.proofs.Counts.{one_more, unpadded}
use Rattle.verdicts.specs.declared.Verdict.{Verdict}
use Rattle.findings.specs.Escapes.{shown_byte, escaped}
use Rattle.findings.specs.Words.{is_said, sort, message}
use Rattle.findings.specs.Lines.{finding, verdict_line}
use Rattle.findings.specs.Runs.{head, tail}

-- the last digit stands behind those of what is before it
pub last-digit : (n : ℕ) → 10 ≤ n → decimal 1 n ≡ decimal 1 (n / 10) ++ ((48 + n % 10) ∷ [])
unfolding decimal
last-digit n h =
    let a = one_more n (omega arith) in
    let b = one_more (n / 10) (omega arith) in
    rw (unpadded 1 n (omega arith), unpadded 1 (n / 10) (omega arith), a)

escaped-append : (a b : List ℕ) → escaped (a ++ b) ≡ escaped a ++ escaped b
unfolding escaped
escaped-append [] b = refl
escaped-append (x ∷ a) b = ap (λ (l : List ℕ). shown_byte x ++ l) (escaped-append a b) ∙ sym (append_assoc (shown_byte x) (escaped a) (escaped b))

-- a loop that goes through bytes: one more
pub next-shown : (t : List ℕ) (i : ℕ) → i < length t → escaped (take (i + 1) t) ≡ escaped (take i t) ++ shown_byte (get_or t i 0)
unfolding escaped
next-shown t i h =
    rw (add-one i, take-suc t i 0 h) (escaped-append (take i t) (get_or t i 0 ∷ []) ∙ ap (λ (l : List ℕ). escaped (take i t) ++ l) (append-nil (shown_byte (get_or t i 0))))

module _ (line : ℕ) (key column text : List ℕ) where
  -- a finding, by the fields before its column and behind its text
  finding-is : (kind words : List ℕ) → finding line key column text kind words ≡ head line key ++ (column ++ (9 ∷ (text ++ tail kind words)))
  unfolding finding
  finding-is kind words = simp append_assoc

  module _ (v : Verdict) (windowed : Bool) {b : Bool} (e : b ≡ is_said v) where
    -- a verdict that says something
    pub said : b ≡ true → verdict_line line key column text v windowed ≡ head line key ++ (column ++ (9 ∷ (text ++ tail (sort v) (message v windowed))))
    unfolding verdict_line pick
    said t = rw (← e, t) (finding-is (sort v) (message v windowed))

    -- one that says nothing
    pub unsaid : b ≡ false → verdict_line line key column text v windowed ≡ []
    unfolding verdict_line pick
    unsaid f = rw (← e, f)
