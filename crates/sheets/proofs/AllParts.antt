-- A file that is cut behind rows as often as one likes counts what its parts count together, each part with the header again. Assumes nothing.
use mathlib.Core.Path.{◌≡◌}
use mathlib.Core.Bool.{false}
use mathlib.Core.List.{List, [], ◌∷◌, ◌++◌, append-nil}
use Prim.Native.Nat.{ℕ, ◌+◌, ◌≤◌}
use native.Mathlib.Omega.{arith}
use lib.ListN.{length}
use Rattle.runs.specs.Steps.Outcome.{took}
use Rattle.findings.specs.Words.{capped}
use Rattle.sheets.specs.declared.Tally.{Tally}
use Rattle.sheets.specs.declared.State.{State}
use Rattle.sheets.specs.Steps.{next, fresh}
use Rattle.sheets.specs.Parts.{Sums, whole_of, PartsOf, EachEndsWith, added_up, AllSums, AllTogether}
use Rattle.sheets.specs.Parts.PartsOf.{last_part, rows_part}
use Rattle.sheets.specs.Parts.EachEndsWith.{no_part, a_part}
use Rattle.sheets.proofs.Theorems.{pieces_of}
use Rattle.sheets.proofs.Amounts.{capped_is, Within}
use Rattle.sheets.proofs.Parts.{reading-within, rows-add, ends_with}

-- the numbers at the end of the report on a file
abbrev counted : List ℕ → Tally
counted s = (pieces_of s).at.tally

-- those of its parts
abbrev counted_each : List ℕ → List (List ℕ) → List Tally
counted_each h [] = []
counted_each h (a ∷ rest) = counted (h ++ a) ∷ counted_each h rest

one-total : (n : ℕ) → n ≤ 4294967295 → n ≡ capped (n + 0)
one-total n h = omega (arith, capped_is (n + 0))

-- a sum with a sum that stays at the largest number
more-total : (n k : ℕ) {m w : ℕ} → w ≡ capped (n + m) → m ≡ capped k → w ≡ capped (n + k)
more-total n k {m} e f = omega (arith, e, f, capped_is (n + m), capped_is k, capped_is (n + k))

one-sums : {t : Tally} → Within t → AllSums (t ∷ []) t
one-sums {t} w =
    record {
      total_rows = one-total t.rows w.low_rows;
      total_strict = one-total t.strict w.low_strict;
      total_otherwise = one-total t.otherwise w.low_otherwise;
      total_refused = one-total t.refused w.low_refused;
      total_bad = one-total t.bad w.low_bad;
    }

more-sums : {t rest whole : Tally} {ts : List Tally} → Sums t rest whole → AllSums ts rest → AllSums (t ∷ ts) whole
more-sums {t} {ts = ts} a b =
    record {
      total_rows = more-total t.rows (added_up (λ t. t.rows) ts) a.sum_rows b.total_rows;
      total_strict = more-total t.strict (added_up (λ t. t.strict) ts) a.sum_strict b.total_strict;
      total_otherwise = more-total t.otherwise (added_up (λ t. t.otherwise) ts) a.sum_otherwise b.total_otherwise;
      total_refused = more-total t.refused (added_up (λ t. t.refused) ts) a.sum_refused b.total_refused;
      total_bad = more-total t.bad (added_up (λ t. t.bad) ts) a.sum_bad b.total_bad;
    }

module _ (h : List ℕ) {st : State} (head : next false h fresh ≡ took (length h) [] st) where
  each-ends : (parts : List (List ℕ)) → EachEndsWith h parts (counted_each h parts)
  each-ends [] = no_part
  each-ends (a ∷ rest) = a_part (ends_with h head a (pieces_of (h ++ a)).reading) (each-ends rest)

  parts-sums : {parts : List (List ℕ)} → PartsOf st.separator parts → AllSums (counted_each h parts) (counted (h ++ whole_of parts))
  parts-sums (last_part a) = rw append-nil (one-sums (reading-within (pieces_of (h ++ a)).reading))
  parts-sums (rows_part {a} {rest} m some p) =
      more-sums (rows-add h head a (whole_of rest) some m (pieces_of (h ++ a)).reading (pieces_of (h ++ whole_of rest)).reading (pieces_of (h ++ (a ++ whole_of rest))).reading)
      (parts-sums p)

  -- the numbers at the ends of the reports on all parts of a file add up to those at the end of the report on it
  pub all-reports-add : {parts : List (List ℕ)} → PartsOf st.separator parts → AllTogether h parts
  all-reports-add {parts} p =
      record {
        numbers = counted_each h parts;
        all_numbers = counted (h ++ whole_of parts);
        end_so = each-ends parts;
        all_ends_so = ends_with h head (whole_of parts) (pieces_of (h ++ whole_of parts)).reading;
        sums = parts-sums p;
      }
