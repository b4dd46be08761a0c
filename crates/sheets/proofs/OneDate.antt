-- What is said of a date in one cell. Assumes nothing.
use Rattle.verdicts.specs.Fields.{cells, six_verdict}
use Prim.Native.Nat.{ℕ, ◌≤◌}
use Rattle.csv_rows.specs.Texts.{undoubled}
use Rattle.sheets.specs.Tallies.{one_date}
use lib.ListN.{length}
use Rattle.findings.specs.Words.{is_said}
use Rattle.sheets.proofs.Goings.{going-none}
use Rattle.verdicts.specs.Dates.{date_verdict}
use Rattle.sheets.specs.Rows.{date_said, windowed_if}
use Rattle.findings.specs.Lines.{date_line, six_line}
use Rattle.findings.proofs.Shape.{date-unsaid, six-unsaid}
use mathlib.Core.Path.{ap, subst, ◌∙◌, ◌≡◌}
use Rattle.sheets.specs.declared.Said.{Said}
use mathlib.Core.List.{List}
use Rattle.sheets.specs.Inside.{Going, Told, counting, SixTold}
use mathlib.Core.Bool.{Bool, false}
use Rattle.findings.specs.declared.Column.{Column}
use Rattle.verdicts.specs.declared.Verdict.{Verdict}

-- where the verdict says nothing, nothing is put
pub date-nothing : (line : ℕ) (key : List ℕ) (column : Column) (cell out : List ℕ) (p : ℕ) → p ≤ length out → (v : Verdict) (w : Bool) → is_said v ≡ false
    → Going (date_line line key column cell v w) out p out p
date-nothing line key column cell out p h v w e = rw (date-unsaid line key column cell v w e) (going-none out p h)

-- what is said of a cell, by another name of its own bytes
pub own-told : (line : ℕ) (key : List ℕ) (column : Column) {own own' out out' : List ℕ} {s r : Said} → own ≡ own'
    → Told (date_said line key column (undoubled own)) (counting (date_verdict (undoubled own))) out s out' r
    → Told (date_said line key column (undoubled own')) (counting (date_verdict (undoubled own'))) out s out' r
own-told line key column {out} {out'} {s} {r} e x =
    subst (λ (o : List ℕ). Told (date_said line key column (undoubled o)) (counting (date_verdict (undoubled o))) out s out' r) e x

-- by another name of its text
pub text-told : (line : ℕ) (key : List ℕ) (column : Column) {text text' out out' : List ℕ} {s r : Said} → text ≡ text'
    → Told (date_said line key column text) (counting (date_verdict text)) out s out' r
    → Told (date_said line key column text') (counting (date_verdict text')) out s out' r
text-told line key column {out} {out'} {s} {r} e x =
    subst (λ (t : List ℕ). Told (date_said line key column t) (counting (date_verdict t)) out s out' r) e x

-- by its verdict
pub date-told : (line : ℕ) (key : List ℕ) (column : Column) (cell : List ℕ) {out out' : List ℕ} {s r : Said} {v : Verdict} → v ≡ date_verdict cell
    → Going (date_line line key column cell v (windowed_if v cell)) out s.put out' r.put → r.tally ≡ one_date s.tally v
    → Told (date_said line key column cell) (counting (date_verdict cell)) out s out' r
unfolding date_said
date-told line key column cell e g t = record { text = rw (← e) g; tally = t ∙ ap (one_date _) e }

-- ---- six cells

-- where the verdict says nothing, nothing is put
pub six-nothing : (line : ℕ) (key y m d ey em ed out : List ℕ) (p : ℕ) → p ≤ length out → (v : Verdict) → is_said v ≡ false
    → Going (six_line line key y m d ey em ed v) out p out p
six-nothing line key y m d ey em ed out p h v e = rw (six-unsaid line key y m d ey em ed v e) (going-none out p h)

-- by its verdict
pub six-told : (line : ℕ) (key y m d ey em ed : List ℕ) {out out' : List ℕ} {s r : Said} {v : Verdict} → v ≡ six_verdict (cells y m d) (cells ey em ed)
    → Going (six_line line key y m d ey em ed v) out s.put out' r.put → r.tally ≡ one_date s.tally v → SixTold line key y m d ey em ed out s out' r
six-told line key y m d ey em ed e g t = record { text = rw (← e) g; tally = t ∙ ap (one_date _) e }

-- by other names of the texts
pub six-as : (line : ℕ) (key : List ℕ) {y y' m m' d d' ey ey' em em' ed ed' out out' : List ℕ} {s r : Said} → y ≡ y' → m ≡ m' → d ≡ d' → ey ≡ ey' → em ≡ em' → ed ≡ ed'
    → SixTold line key y m d ey em ed out s out' r → SixTold line key y' m' d' ey' em' ed' out s out' r
six-as line key {y} {y'} {m} {m'} {d} {d'} {ey} {ey'} {em} {em'} {ed} {ed'} {out} {out'} {s} {r} e1 e2 e3 e4 e5 e6 x =
    subst (λ (z : List ℕ). SixTold line key y' m' d' ey' em' z out s out' r) e6
    (subst (λ (z : List ℕ). SixTold line key y' m' d' ey' z ed out s out' r) e5
    (subst (λ (z : List ℕ). SixTold line key y' m' d' z em ed out s out' r) e4
    (subst (λ (z : List ℕ). SixTold line key y' m' z ey em ed out s out' r) e3
    (subst (λ (z : List ℕ). SixTold line key y' z d ey em ed out s out' r) e2
    (subst (λ (z : List ℕ). SixTold line key z m d ey em ed out s out' r) e1 x)))))
