-- How much a change of a tally adds to each of its five numbers, whatever was counted before; they stay at the largest. Assumes nothing.
use mathlib.Core.Path.{◌≡◌, sym, ap, ◌∙◌}
use mathlib.Core.List.{List}
use Prim.Native.Nat.{ℕ, ◌+◌, ◌-◌, ◌≤◌, ◌<◌}
use native.Mathlib.Omega.{arith}
use borrow.Author.Tests.{leb-true, leb-false}
use lib.Dec.{leb}
use Rattle.chars.specs.Pick.{pick}
use Rattle.chars.proofs.Cases.{of_test}
use Rattle.verdicts.specs.declared.Verdict.{Verdict}
use Rattle.verdicts.specs.declared.Verdict.TheVariants.{NoDate, Full, NotStrict, ShortYear, Unread, Refused}
use Rattle.verdicts.specs.Dates.{date_verdict}
use Rattle.findings.specs.Words.{capped}
use Rattle.headers.specs.declared.Columns.{Columns}
use Rattle.sheets.specs.declared.Tally.{Tally}
use Rattle.headers.specs.declared.RowFault.{RowFault}
use Rattle.std.specs.Prelude.{Result, Ok, Err}
use Rattle.sheets.specs.Tallies.{one_strict, one_otherwise, one_refused, one_row, one_bad, one_date}
use Rattle.sheets.specs.Rows.{text_at, dates_counted, six_of, row_counted, checked_counted}
use Rattle.sheets.specs.Steps.{no_tally}

pub capped_is : (n : ℕ) → capped n ≡ n - (n - 4294967295)
unfolding capped pick
capped_is n =
    of_test (leb n 4294967295) (λ q. let h = leb-true n 4294967295 q in rw q (omega arith))
    (λ q. let h = leb-false n 4294967295 q in rw q (omega arith))

-- one number is another with so many added, up to the largest number
pub record Raised (k n n' : ℕ) : Type 0 where
  -- it is at most the largest, if the other is
  pub within : n ≤ 4294967295 → n' ≤ 4294967295
  -- up to the largest it is the sum
  pub sum : capped n' ≡ capped (n + k)

pub none-raised : (n : ℕ) → Raised 0 n n
none-raised n = record { within = λ h. h; sum = omega (arith, capped_is n, capped_is (n + 0)) }

pub one-raised : (n : ℕ) → Raised 1 n (capped (n + 1))
one-raised n = record { within = λ h. omega (arith, capped_is (n + 1)); sum = omega (arith, capped_is (n + 1), capped_is (capped (n + 1))) }

capped-high : (n : ℕ) → 4294967295 ≤ n → capped n ≡ 4294967295
capped-high n h = omega (arith, capped_is n)

-- what is the same up to the largest is so with as much added
pub capped-more : (a b m : ℕ) → capped a ≡ capped b → capped (a + m) ≡ capped (b + m)
capped-more a b m e =
    of_test (leb 4294967295 a)
    (λ q.
    let h = leb-true 4294967295 a q in
    let i : 4294967295 ≤ b = omega (arith, e, capped_is b, capped-high a h) in
    capped-high (a + m) (omega arith) ∙ sym (capped-high (b + m) (omega arith)))
    (λ q.
    let h = leb-false 4294967295 a q in
    let i : a ≡ b = omega (arith, e, capped_is a, capped_is b) in
    ap (λ (x : ℕ). capped (x + m)) i)

both-raised : {k m n n' n'' : ℕ} → Raised k n n' → Raised m n' n'' → Raised (k + m) n n''
both-raised {k} {m} {n} {n'} a b =
    let e : n + k + m ≡ n + (k + m) = omega arith in
    record { within = λ h. b.within (a.within h); sum = b.sum ∙ capped-more n' (n + k) m a.sum ∙ ap capped e }

-- a tally is another with five numbers added
pub record Counts (k t t' : Tally) : Type 0 where
  pub in_rows : Raised k.rows t.rows t'.rows
  pub in_strict : Raised k.strict t.strict t'.strict
  pub in_otherwise : Raised k.otherwise t.otherwise t'.otherwise
  pub in_refused : Raised k.refused t.refused t'.refused
  pub in_bad : Raised k.bad t.bad t'.bad

-- five numbers and five others
abbrev pub together : Tally → Tally → Tally
together k m =
    record { rows = k.rows + m.rows; strict = k.strict + m.strict; otherwise = k.otherwise + m.otherwise; refused = k.refused + m.refused; bad = k.bad + m.bad }

pub none-counts : (t : Tally) → Counts no_tally t t
none-counts t =
    record {
      in_rows = none-raised t.rows;
      in_strict = none-raised t.strict;
      in_otherwise = none-raised t.otherwise;
      in_refused = none-raised t.refused;
      in_bad = none-raised t.bad;
    }

pub both-counts : {k m t t' t'' : Tally} → Counts k t t' → Counts m t' t'' → Counts (together k m) t t''
both-counts a b =
    record {
      in_rows = both-raised a.in_rows b.in_rows;
      in_strict = both-raised a.in_strict b.in_strict;
      in_otherwise = both-raised a.in_otherwise b.in_otherwise;
      in_refused = both-raised a.in_refused b.in_refused;
      in_bad = both-raised a.in_bad b.in_bad;
    }

-- a change of a tally adds five numbers, whatever was counted before
pub record Amount (f : Tally → Tally) : Type 0 where
  pub much : Tally
  pub counts : (t : Tally) → Counts much t (f t)

no-amount : Amount (λ t. t)
no-amount = record { much = no_tally; counts = none-counts }

then-amount : {f g : Tally → Tally} → Amount f → Amount g → Amount (λ t. g (f t))
then-amount {f} a b = record { much = together a.much b.much; counts = λ t. both-counts (a.counts t) (b.counts (f t)) }

unfoldable pub strict-amount : Amount one_strict
unfolding one_strict
strict-amount =
    record {
      much = record { rows = 0; strict = 1; otherwise = 0; refused = 0; bad = 0 };
      counts = λ t.
          record {
            in_rows = none-raised t.rows;
            in_strict = one-raised t.strict;
            in_otherwise = none-raised t.otherwise;
            in_refused = none-raised t.refused;
            in_bad = none-raised t.bad;
          };
    }

unfoldable pub otherwise-amount : Amount one_otherwise
unfolding one_otherwise
otherwise-amount =
    record {
      much = record { rows = 0; strict = 0; otherwise = 1; refused = 0; bad = 0 };
      counts = λ t.
          record {
            in_rows = none-raised t.rows;
            in_strict = none-raised t.strict;
            in_otherwise = one-raised t.otherwise;
            in_refused = none-raised t.refused;
            in_bad = none-raised t.bad;
          };
    }

unfoldable pub refused-amount : Amount one_refused
unfolding one_refused
refused-amount =
    record {
      much = record { rows = 0; strict = 0; otherwise = 0; refused = 1; bad = 0 };
      counts = λ t.
          record {
            in_rows = none-raised t.rows;
            in_strict = none-raised t.strict;
            in_otherwise = none-raised t.otherwise;
            in_refused = one-raised t.refused;
            in_bad = none-raised t.bad;
          };
    }

unfoldable pub row-amount : Amount one_row
unfolding one_row
row-amount =
    record {
      much = record { rows = 1; strict = 0; otherwise = 0; refused = 0; bad = 0 };
      counts = λ t.
          record {
            in_rows = one-raised t.rows;
            in_strict = none-raised t.strict;
            in_otherwise = none-raised t.otherwise;
            in_refused = none-raised t.refused;
            in_bad = none-raised t.bad;
          };
    }

unfoldable pub bad-amount : Amount one_bad
unfolding one_bad
bad-amount =
    record {
      much = record { rows = 1; strict = 0; otherwise = 0; refused = 0; bad = 1 };
      counts = λ t.
          record {
            in_rows = one-raised t.rows;
            in_strict = none-raised t.strict;
            in_otherwise = none-raised t.otherwise;
            in_refused = none-raised t.refused;
            in_bad = one-raised t.bad;
          };
    }

date-amount : (v : Verdict) → Amount (λ t. one_date t v)
unfolding one_date
date-amount NoDate = no-amount
date-amount Full = strict-amount
date-amount (NotStrict d) = otherwise-amount
date-amount (ShortYear d) = otherwise-amount
date-amount Unread = refused-amount
date-amount (Refused e) = refused-amount

module _ (c : Columns) (cs : List (List ℕ)) where
  dates-amount : Amount (dates_counted c cs)
  unfolding dates_counted
  dates-amount =
      then-amount
      (then-amount (then-amount (date-amount (date_verdict (text_at cs c.date))) (date-amount (date_verdict (text_at cs c.origdate)))) (date-amount (date_verdict (text_at cs c.eventdate))))
      (date-amount (date_verdict (text_at cs c.urldate)))

  pub checked-amount : (k : Result (Unit {0}) RowFault) → Amount (checked_counted c cs k)
  unfolding checked_counted row_counted
  checked-amount (Ok tt) = then-amount row-amount (then-amount dates-amount (date-amount (six_of c cs)))
  checked-amount (Err f) = bad-amount

pub raised_by : {k n n' : ℕ} → Raised k n n' → n' < 4294967295 → n' ≡ n + k
raised_by {k} {n} {n'} r h = omega (arith, r.sum, capped_is n', capped_is (n + k))

-- numbers of 32 bits
pub record Within (t : Tally) : Type 0 where
  pub low_rows : t.rows ≤ 4294967295
  pub low_strict : t.strict ≤ 4294967295
  pub low_otherwise : t.otherwise ≤ 4294967295
  pub low_refused : t.refused ≤ 4294967295
  pub low_bad : t.bad ≤ 4294967295

pub counts-within : {k t t' : Tally} → Counts k t t' → Within t → Within t'
counts-within c w =
    record {
      low_rows = c.in_rows.within w.low_rows;
      low_strict = c.in_strict.within w.low_strict;
      low_otherwise = c.in_otherwise.within w.low_otherwise;
      low_refused = c.in_refused.within w.low_refused;
      low_bad = c.in_bad.within w.low_bad;
    }

pub none_within : Within no_tally
none_within = record { low_rows = omega arith; low_strict = omega arith; low_otherwise = omega arith; low_refused = omega arith; low_bad = omega arith }
