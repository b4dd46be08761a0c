-- However a file is cut into blocks, what is written is the report on it; and the report is what is said of its pieces, in order.
-- Assumes nothing.
use mathlib.Core.Path.{◌≡◌, refl, sym, ap, ◌∙◌}
use mathlib.Core.Bool.{Bool, true, false, false≢true}
use mathlib.Core.List.{List, [], ◌++◌, append-nil, append_assoc}
use Prim.Native.Nat.{ℕ}
use native.Mathlib.Omega.{arith}
use lib.ListN.{drop}
use lib.Seq.{drop-append-le}
use Rattle.runs.specs.Steps.{Outcome, Way, report_on, Steady}
use Rattle.runs.specs.Steps.Outcome.{wait, took, over}
use Rattle.runs.specs.Runs.{Run, Ended}
use Rattle.runs.specs.Runs.Run.{start, read, end, step}
use Rattle.runs.specs.Runs.Ended.{ended}
use Rattle.runs.proofs.Reports.{report-took, report-over}

-- two outcomes are not one
wait-took : {State : Type 0} {n : ℕ} {text : List ℕ} {kept : State} → took n text kept ≡ wait → ⊥
wait-took e = let z : ◌≡◌ {A = ℕ} 0 1 = cc in omega arith

wait-over : {State : Type 0} {text : List ℕ} → ◌≡◌ {A = Outcome State} (over text) wait → ⊥
wait-over e = let z : ◌≡◌ {A = ℕ} 0 1 = cc in omega arith

module _ {State : Type 0} {next : Way State} (steady : Steady next) where
  -- what may still follow: nothing, once the file's end is seen
  abbrev Follows : Bool → List ℕ → Type 0
  Follows last rest = last ≡ true → rest ≡ []

  -- an answer that is no wait is that on the whole file
  on-the-whole : (last : Bool) (b rest : List ℕ) (st : State) {o : Outcome State} → Follows last rest → next last b st ≡ o → (o ≡ wait → ⊥)
      → next true (b ++ rest) st ≡ o
  on-the-whole true b rest st f e w = rw (f refl, append-nil b) e
  on-the-whole false b rest st f e w = steady.stable b rest st true (λ x. w (sym e ∙ x)) ∙ e

  -- one step of a run
  step-report : (last : Bool) (b rest : List ℕ) (st : State) {n : ℕ} {text : List ℕ} {kept : State} → Follows last rest → next last b st ≡ took n text kept
      → report_on next st (b ++ rest) ≡ text ++ report_on next kept (drop n b ++ rest)
  step-report last b rest st {n} {text} {kept} f e =
      let h = (steady.moves last b st e).1 in
      report-took next steady st (b ++ rest) (on-the-whole last b rest st f e wait-took)
      ∙ ap (λ (x : List ℕ). text ++ report_on next kept x) (drop-append-le n b rest h)

  -- what was written, and then the report from there on, is the report on the file, whatever follows what was read
  pub so_far : {first : State} {last : Bool} {s b w : List ℕ} {st : State} → Run next first last s b st w → (rest : List ℕ) → Follows last rest
      → report_on next first (s ++ rest) ≡ w ++ report_on next st (b ++ rest)
  so_far start rest f = refl
  so_far {first} (read {s} {b} {w} {st} new r) rest f =
      ap (report_on next first) (append_assoc s new rest)
      ∙ so_far r (new ++ rest) (λ x. absurd (false≢true x))
      ∙ ap (λ (x : List ℕ). w ++ report_on next st x) (sym (append_assoc b new rest))
  so_far (end r) rest f = so_far r rest (λ x. absurd (false≢true x))
  so_far (step {last} {s} {b} {w} {text} {st} {kept} {n} r e) rest f =
      so_far r rest f
      ∙ ap (λ (x : List ℕ). w ++ x) (step-report last b rest st f e)
      ∙ sym (append_assoc w text (report_on next kept (drop n b ++ rest)))

  over-report : {first : State} {last : Bool} {s w : List ℕ} → Ended next first last s w → (rest : List ℕ) → Follows last rest → report_on next first (s ++ rest) ≡ w
  over-report (ended {last} {s} {b} {w} {text} {st} r e) rest f =
      so_far r rest f
      ∙ ap (λ (x : List ℕ). w ++ x) (report-over next steady st (b ++ rest) (on-the-whole last b rest st f e wait-over))

  -- at the file's end all that was written is the report on the file, however it was cut
  pub all-of-it : {first : State} {s w : List ℕ} → Ended next first true s w → w ≡ report_on next first s
  all-of-it {first} {s} r = sym (ap (report_on next first) (sym (append-nil s)) ∙ over-report r [] (λ _. refl))

  -- and a report that ends before the file does is that on the file, whatever else is in it
  pub ends-early : {first : State} {s w : List ℕ} → Ended next first false s w → (rest : List ℕ) → w ≡ report_on next first (s ++ rest)
  ends-early r rest = sym (over-report r rest (λ x. absurd (false≢true x)))

  -- so two runs over one file write the same
  pub cut-anyhow : {first : State} {s w w' : List ℕ} → Ended next first true s w → Ended next first true s w' → w ≡ w'
  cut-anyhow r q = all-of-it r ∙ sym (all-of-it q)
