-- A row that is checked: its cells are short, and what is said of it. Assumes nothing.
use Prim.Native.Nat.{ℕ, ◌≤◌}
use Rattle.csv_rows.specs.Bytes.{utf8_end}
use Rattle.chars.specs.Pick.{pick}
use Rattle.sheets.specs.Tallies.{one_bad, one_row}
use Rattle.chars.proofs.Cases.{of_test}
use borrow.Author.Tests.{ltb-false}
use lib.ListN.{length, take}
use lib.Dec.{eqb, ltb}
use Rattle.findings.specs.Lines.{bad_row_line}
use native.Mathlib.Omega.{arith}
use Rattle.sheets.specs.Rows.{any_long, checked_counted, checked_row, checked_said, is_long, key_column, long_six, own_at, row_counted, row_said, lines_by}
use mathlib.Core.Path.{◌≡◌, refl, sym, subst}
use Rattle.sheets.specs.declared.Tally.{Tally}
use Rattle.sheets.specs.declared.Said.{Said}
use Rattle.sheets.specs.Inside.{RowTold, Short, Told, at_start}
use mathlib.Core.List.{List}
use Rattle.headers.specs.declared.Columns.{Columns}
use mathlib.Core.Bool.{Bool, false, false≢true, true, ◌||◌}
use Rattle.std.specs.Prelude.{Result, Ok, Err}
use Rattle.headers.specs.declared.RowFault.{RowFault}

or-false : (p q : Bool) → p || q ≡ false → (p ≡ false) × (q ≡ false)
or-false true q e = absurd (false≢true (sym e))
or-false false q e = (refl, e)

good-not-bad : {f : RowFault} → ◌≡◌ {A = Result (Unit {0}) RowFault} (Err f) (Ok tt) → ⊥
good-not-bad e = let z : ◌≡◌ {A = ℕ} 0 1 = cc in omega arith

module _ (c : Columns) (cs : List (List ℕ)) where
  short-at : (k : ℕ) → is_long cs k ≡ false → length (own_at cs k) ≤ 4096
  short-at k e = ltb-false 4096 (length (own_at cs k)) e

  shorts : any_long c cs ≡ false → Short c cs
  unfolding any_long long_six
  shorts e =
      let k0 = or-false (is_long cs (key_column c)) _ e in
      let k1 = or-false (is_long cs c.date) _ k0.1 in
      let k2 = or-false (is_long cs c.origdate) _ k1.1 in
      let k3 = or-false (is_long cs c.eventdate) _ k2.1 in
      let k4 = or-false (is_long cs c.urldate) _ k3.1 in
      let k5 = or-false (is_long cs c.year) _ k4.1 in
      let k6 = or-false (is_long cs c.month) _ k5.1 in
      let k7 = or-false (is_long cs c.day) _ k6.1 in
      let k8 = or-false (is_long cs c.endyear) _ k7.1 in
      let k9 = or-false (is_long cs c.endmonth) _ k8.1 in
      record {
        key = short-at (key_column c) k0.0;
        date = short-at c.date k1.0;
        origdate = short-at c.origdate k2.0;
        eventdate = short-at c.eventdate k3.0;
        urldate = short-at c.urldate k4.0;
        year = short-at c.year k5.0;
        month = short-at c.month k6.0;
        day = short-at c.day k7.0;
        endyear = short-at c.endyear k8.0;
        endmonth = short-at c.endmonth k9.0;
        endday = short-at c.endday k9.1;
      }

  -- a good row has no long cell
  pub good-short : (width : ℕ) (s : List ℕ) (end count : ℕ) → checked_row c width s end count cs ≡ Ok tt → Short c cs
  unfolding checked_row pick
  good-short width s end count e =
      of_test (eqb count width)
      (λ q.
      of_test (ltb (utf8_end (take end s)) end)
      (λ u. absurd (good-not-bad (rw (q, u) at e)))
      (λ u. of_test (any_long c cs) (λ l. absurd (good-not-bad (rw (q, u, l) at e))) (λ l. shorts l)))
      (λ q. absurd (good-not-bad (rw q at e)))

  module _ (line width : ℕ) (s : List ℕ) (end count : ℕ) {out out' : List ℕ} {t : Tally} {r : Said} where
    -- what is said of a good row
    pub told-good : checked_row c width s end count cs ≡ Ok tt → {q : Said} → q ≡ at_start (one_row t) → Told (row_said line c cs) (row_counted c cs) out q out' r
        → RowTold line c width s end count cs out t out' r
    unfolding checked_said checked_counted
    told-good e p x = let y = rw p at x in rw e (record { text = y.text; tally = y.tally })

    -- of a bad one
    pub told-bad : {f : RowFault} → checked_row c width s end count cs ≡ Err f → Told (bad_row_line line f) one_bad out (at_start t) out' r
        → RowTold line c width s end count cs out t out' r
    unfolding checked_said checked_counted
    told-bad e x = rw e x

-- the lines of a row by another name of its key
pub key-told : (line : ℕ) (c : Columns) (cs : List (List ℕ)) {key key' out out' : List ℕ} {f : Tally → Tally} {s r : Said} → key ≡ key'
    → Told (lines_by line key c cs) f out s out' r → Told (lines_by line key' c cs) f out s out' r
key-told line c cs {out} {out'} {f} {s} {r} e x = subst (λ (k : List ℕ). Told (lines_by line k c cs) f out s out' r) e x
