-- A report ends with one set of numbers: so what is said of them holds of those that are read at its end. Assumes nothing.
use mathlib.Core.Path.{◌≡◌, refl, sym, ap, ◌∙◌}
use mathlib.Core.Bool.{false}
use mathlib.Core.List.{List, [], ◌++◌}
use Prim.Native.Nat.{ℕ}
use native.Mathlib.Omega.{arith}
use lib.ListN.{length}
use Rattle.runs.specs.Steps.Outcome.{took}
use Rattle.findings.proofs.Shape.{occurs, occurs-append, summary-two, unread-one}
use Rattle.findings.proofs.Once.{summary-once}
use Rattle.sheets.specs.declared.Tally.{Tally}
use Rattle.sheets.specs.declared.State.{State}
use Rattle.sheets.specs.Steps.{last_lines, next, fresh}
use Rattle.sheets.specs.Reports.{report}
use Rattle.sheets.specs.Ends.{EndsWith}
use Rattle.sheets.specs.Parts.{whole_of, PartsOf, EachEndsWith, AllSums}
use Rattle.sheets.specs.Parts.EachEndsWith.{no_part, a_part}
use Rattle.sheets.specs.Sorts.{CountsLines}
use Rattle.sheets.proofs.AllParts.{all-reports-add}
use Rattle.sheets.proofs.Safe.{Heads, heads, unread-said}
use Rattle.sheets.proofs.Safe.Heads.{unusable, usable}
use Rattle.sheets.proofs.Sorts.{sorts-counted}

abbrev tally : ℕ → ℕ → ℕ → ℕ → ℕ → Tally
tally a b c d e = record { rows = a; strict = b; otherwise = c; refused = d; bad = e }

-- the numbers at the end of a report are the only ones
pub ends-once : {s : List ℕ} {t t' : Tally} → EndsWith s t → EndsWith s t' → t ≡ t'
ends-once {s} {t} {t'} a b =
    let p = summary-once a.lines b.lines t.rows t.strict t.otherwise t.refused t.bad t'.rows t'.strict t'.otherwise t'.refused t'.bad (sym a.is ∙ b.is) in
    let e : tally t.rows t.strict t.otherwise t.refused t.bad ≡ tally t'.rows t'.strict t'.otherwise t'.refused t'.bad =
    rw (p.0, p.1, p.2, p.3, p.4) in
    e

each-once : {h : List ℕ} {parts : List (List ℕ)} {ts ts' : List Tally} → EachEndsWith h parts ts → EachEndsWith h parts ts' → ts ≡ ts'
each-once no_part no_part = refl
each-once (a_part a r) (a_part b q) = let e = ends-once a b in let f = each-once r q in cc

-- those of the parts of a file add up to those of the whole
pub numbers-add : (h : List ℕ) {st : State} → next false h fresh ≡ took (length h) [] st → {parts : List (List ℕ)} {ts : List Tally} {whole : Tally} → PartsOf st.separator parts
    → EachEndsWith h parts ts → EndsWith (h ++ whole_of parts) whole → AllSums ts whole
numbers-add h head p a b =
    let t = all-reports-add h head p in
    let e = each-once t.end_so a in
    let f = ends-once t.all_ends_so b in
    rw (← e, ← f) t.sums

-- and they are those of the report's lines, sort by sort
pub numbers-lines : (s : List ℕ) (t : Tally) → EndsWith s t → CountsLines (report s) t
numbers-lines s t a = by_heads (heads s)
  where
    by_heads : Heads s → CountsLines (report s) t
    by_heads (unusable why h) =
        let e = ap (occurs 10) (sym (unread-said s why h) ∙ a.is) in
        let l = occurs-append 10 a.lines (last_lines t) in
        absurd (omega (arith, e, unread-one why, summary-two t.rows t.strict t.otherwise t.refused t.bad))
    by_heads (usable h) = let p = sorts-counted s h in rw (ends-once a p.1) p.2
