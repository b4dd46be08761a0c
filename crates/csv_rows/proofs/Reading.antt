-- Cells that are stored one by one. Assumes nothing.
use mathlib.Core.Path.{◌≡◌, refl, ap, ◌∙◌}
use mathlib.Core.List.{List, [], ◌∷◌}
use Prim.Native.Nat.{ℕ, suc, ◌+◌, ◌-◌, ◌*◌, ◌≤◌}
use native.Mathlib.Omega.{arith}
use borrow.Author.Tests.{ltb-true, ltb-false}
use lib.Dec.{ltb}
use lib.ListN.{length, take, set}
use lib.Seq.{sets, length-sets, take-nil}
use Rattle.chars.proofs.Cases.{of_test}
use Rattle.csv_rows.specs.declared.Ending.{Ending}
use Rattle.csv_rows.specs.Reader.{Place, Line}
use Rattle.csv_rows.specs.Answers.{numbers, listed}
use Rattle.csv_rows.specs.Scans.{Put, Scanned, end_place}

pub two : (l : List ℕ) (i a b : ℕ) → set (set l i a) (i + 1) b ≡ sets l i (a ∷ b ∷ [])
two l i a b = let e : i + 1 ≡ suc i = omega arith in rw e

-- so many cells were stored, and the rest is to come
pub record Reading (all rest : Line) (before table : List ℕ) (count : ℕ) : Type 0 where
  pub count_is : count + length rest.cells ≡ length all.cells
  pub ending_is : rest.ending ≡ all.ending
  pub table_is : sets table (2 * count) (numbers (take (256 - count) rest.cells)) ≡ listed all before
  pub long : length table ≡ 512

pub reading-start : (all : Line) (table : List ℕ) → length table ≡ 512 → Reading all all table table 0
unfolding listed
reading-start all table h = record { count_is = omega arith; ending_is = refl; table_is = refl; long = h }

put-long : {count start stop : ℕ} {table after : List ℕ} → Put count start stop table after → length after ≡ length table
put-long {count} {start} {stop} {table} p =
    of_test (ltb count 256) (λ q. ap length (p.put (ltb-true count 256 q)) ∙ length-sets table (2 * count) (start ∷ stop ∷ [])) (λ q. ap length (p.full (ltb-false count 256 q)))

module _ {table after : List ℕ} {count : ℕ} (c : Place) (cs : List Place) (e : Ending) (p : Put count c.start c.stop table after) where
  put_is : (x : List ℕ) → sets table (2 * count) (numbers (take (256 - count) (c ∷ cs))) ≡ x → sets after (2 * (count + 1)) (numbers (take (256 - (count + 1)) cs)) ≡ x
  unfolding numbers
  put_is x h =
      of_test (ltb count 256)
      (λ q.
      let l = ltb-true count 256 q in
      let n : 256 - count ≡ suc (256 - (count + 1)) = omega arith in
      let m : 2 * (count + 1) ≡ suc (suc (2 * count)) = omega arith in
      rw (p.put l, m) (rw n at h))
      (λ q.
      let l = ltb-false count 256 q in
      let n : 256 - count ≡ 0 = omega arith in
      let m : 256 - (count + 1) ≡ 0 = omega arith in
      rw (p.full l, m) (rw n at h))

  pub reading_step : {all rest : Line} {before : List ℕ} → rest ≡ record { cells = c ∷ cs; ending = e } → Reading all rest before table count → Reading all (record { cells = cs; ending = e }) before after (count + 1)
  reading_step g q =
      let r = rw g at q in
      record { count_is = omega (arith, r.count_is); ending_is = r.ending_is; table_is = put_is _ r.table_is; long = put-long p ∙ r.long }

pub reading-end : {all rest : Line} {before table : List ℕ} {count : ℕ} (e : Ending) (size : ℕ) → rest ≡ record { cells = []; ending = e } → Reading all rest before table count → end_place e ≤ size
    → Scanned all (record { count = count; ending = e }) size before table
unfolding numbers
reading-end {all} {rest} {before} {table} {count} e size g q h =
    let r = rw g at q in
    record {
      count_is = omega (arith, r.count_is);
      ending_is = r.ending_is;
      inside = h;
      table_is = rw (take-nil {A = Place} (256 - count)) at r.table_is;
    }
