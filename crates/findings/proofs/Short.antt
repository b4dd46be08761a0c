-- What is said of the cells of a row: the Date has a short text, so that the lines are short. Assumes nothing.
use mathlib.Core.Path.{◌≡◌, refl, ap, ◌∙◌, sym}
use mathlib.Core.Bool.{Bool, true, false, false≢true}
use mathlib.Core.List.{List}
use Prim.Native.Nat.{ℕ, ◌≤◌}
use lib.Dec.{eqb}
use lib.ListN.{length}
use Rattle.chars.proofs.Cases.{by-test}
use Rattle.dates.specs.declared.Date.{Date}
use Rattle.refusals.specs.declared.Refusal.{Refusal}
use Rattle.std.specs.Prelude.{Result, Ok, Err}
use Rattle.verdicts.specs.declared.Verdict.{Verdict}
use Rattle.verdicts.specs.declared.Verdict.TheVariants.{NoDate, Full, NotStrict, ShortYear, Unread, Refused}
use Rattle.verdicts.specs.Dates.{is_same, by_readers, date_verdict}
use Rattle.verdicts.specs.Plain.{written_text}
use Rattle.verdicts.specs.Fields.{Cells, six_verdict}
use Rattle.verdicts.proofs.Written.{date-has-text, six-has-text, six-other-text, said-short}
use Rattle.findings.proofs.Bounds.{ShortText}

-- whether it is the verdict of a short year
is_short : Verdict → Bool
is_short NoDate = false
is_short Full = false
is_short (NotStrict d) = false
is_short (ShortYear d) = true
is_short Unread = false
is_short (Refused e) = false

readers-not : (strict ported : Result Date Refusal) → is_short (by_readers strict ported) ≡ false
unfolding by_readers is_short
readers-not strict (Ok e) = by-test (λ (v : Verdict). is_short v ≡ false) (is_same strict e) (λ _. refl) (λ _. refl)
readers-not strict (Err f) = refl

date-not : (s : List ℕ) → is_short (date_verdict s) ≡ false
unfolding date_verdict is_short
date-not s = by-test (λ (v : Verdict). is_short v ≡ false) (eqb (length s) 0) (λ _. refl) (λ _. readers-not _ _)

-- by the verdict
all_short : (v : Verdict) → ((d : Date) → v ≡ NotStrict d → length (written_text d) ≤ 40) → ((d : Date) → v ≡ ShortYear d → length (written_text d) ≤ 40) → ShortText v
all_short NoDate f g = tt
all_short Full f g = tt
all_short (NotStrict d) f g = f d refl
all_short (ShortYear d) f g = g d refl
all_short Unread f g = tt
all_short (Refused e) f g = tt

-- a date in one cell
pub date-short : (s : List ℕ) → ShortText (date_verdict s)
unfolding is_short
date-short s =
    all_short (date_verdict s) (λ d e. said-short (date-has-text s d e)) (λ d e. absurd (false≢true (sym (date-not s) ∙ ap is_short e)))

-- a date in six cells
pub six-short : (start end : Cells) → ShortText (six_verdict start end)
six-short start end =
    all_short (six_verdict start end) (λ d e. said-short (six-other-text start end d e)) (λ d e. said-short (six-has-text start end d e))
