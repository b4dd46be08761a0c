-- The report, step by step. Assumes nothing.
use mathlib.Core.Path.{◌≡◌, refl, ap}
use mathlib.Core.Bool.{true}
use mathlib.Core.List.{List, ◌++◌}
use Prim.Native.Nat.{ℕ, zero, suc, ◌<◌}
use native.Mathlib.Omega.{arith}
use lib.ListN.{length, drop, length-drop}
use Rattle.runs.specs.Steps.{Outcome, Way, told, report_by, report_on, Steady}
use Rattle.runs.specs.Steps.Outcome.{wait, took, over}

-- what follows bytes that were taken, by another name
told-as : {State : Type 0} {f g : ℕ → List ℕ → State → List ℕ} (o : Outcome State)
    → ((n : ℕ) (text : List ℕ) (kept : State) → o ≡ took n text kept → f n text kept ≡ g n text kept) → told f o ≡ told g o
unfolding told
told-as wait h = refl
told-as (took n text kept) h = h n text kept refl
told-as (over text) h = refl

module _ {State : Type 0} (next : Way State) (steady : Steady next) where
  -- steps enough for every byte are as many as one likes
  enough : (f g : ℕ) (st : State) (s : List ℕ) → length s < f → length s < g → report_by next f st s ≡ report_by next g st s
  unfolding report_by
  enough zero g st s h k = absurd (omega arith)
  enough (suc f) zero st s h k = absurd (omega arith)
  enough (suc f) (suc g) st s h k =
      told-as (next true s st) (λ n text kept e.
      let m = steady.moves true s st e in
      ap (λ (t : List ℕ). text ++ t) (enough f g kept (drop n s) (omega (arith, length-drop n s)) (omega (arith, length-drop n s))))

  -- behind a step that took bytes
  pub report-took : (st : State) (s : List ℕ) {n : ℕ} {text : List ℕ} {kept : State} → next true s st ≡ took n text kept
      → report_on next st s ≡ text ++ report_on next kept (drop n s)
  unfolding report_on report_by told
  report-took st s {n} {text} {kept} e =
      let m = steady.moves true s st e in
      rw e (ap (λ (t : List ℕ). text ++ t) (enough (length s) (suc (length (drop n s))) kept (drop n s) (omega (arith, length-drop n s)) (omega arith)))

  -- behind the last
  pub report-over : (st : State) (s : List ℕ) {text : List ℕ} → next true s st ≡ over text → report_on next st s ≡ text
  unfolding report_on report_by told
  report-over st s e = rw e
