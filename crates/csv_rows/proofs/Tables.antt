-- What stands in the table: the places of each cell. Assumes nothing.
use mathlib.Core.Path.{◌≡◌, refl, ◌∙◌}
use mathlib.Core.Bool.{Bool}
use mathlib.Core.List.{List, [], ◌∷◌}
use Prim.Native.Nat.{ℕ, zero, suc, ◌+◌, ◌*◌, ◌≤◌, ◌<◌}
use native.Mathlib.Omega.{arith}
use lib.ListN.{length, get_or, take, get_or-append}
use lib.Seq.{sets-eq, take_all}
use Rattle.csv_rows.specs.declared.RowRead.TheVariants.{Row}
use Rattle.csv_rows.specs.Reader.{Place}
use Rattle.csv_rows.specs.Answers.{place_at, numbers, listed, line_of, answer, table_after, InOrder, no_cell, then_cell}
use Rattle.csv_rows.proofs.Moves.{places-inside}

numbers-long : (cs : List Place) → length (numbers cs) ≡ 2 * length cs
unfolding numbers
numbers-long [] = refl
numbers-long (c ∷ cs) = let h = numbers-long cs in omega arith

start-at : (cs : List Place) (i : ℕ) → get_or (numbers cs) (2 * i) 0 ≡ (place_at cs i).start
unfolding numbers
start-at [] i = refl
start-at (c ∷ cs) zero = refl
start-at (c ∷ cs) (suc i) = let e : 2 * suc i ≡ suc (suc (2 * i)) = omega arith in rw e (start-at cs i)

stop-at : (cs : List Place) (i : ℕ) → get_or (numbers cs) (2 * i + 1) 0 ≡ (place_at cs i).stop
unfolding numbers
stop-at [] i = refl
stop-at (c ∷ cs) zero = refl
stop-at (c ∷ cs) (suc i) = let e : 2 * suc i + 1 ≡ suc (suc (2 * i + 1)) = omega arith in rw e (stop-at cs i)

pub order-at : {low high : ℕ} {cs : List Place} → InOrder low high cs → (i : ℕ) → i < length cs → (low ≤ (place_at cs i).start) × ((place_at cs i).start ≤ (place_at cs i).stop) × ((place_at cs i).stop ≤ high)
order-at no_cell i h = absurd (omega arith)
order-at (then_cell p q r o) zero h = (p, q, r)
order-at (then_cell p q r o) (suc i) h = let k = order-at o i (omega arith) in (omega (arith, k.0), k.1, k.2)

module _ (sep : ℕ) (last : Bool) (s table : List ℕ) (room : length table ≡ 512) {end count : ℕ} (e : answer sep last s ≡ Row end count) where
  in_table : (j : ℕ) → j < 2 * count → get_or (table_after sep last s table) j 0 ≡ get_or (numbers (line_of sep last s).cells) j 0
  unfolding table_after listed
  in_table j h =
      let p = places-inside sep last s e in
      let cs = (line_of sep last s).cells in
      let n = numbers-long cs in
      let t : take 256 cs ≡ cs = take_all 256 cs (omega (arith, p.0, p.1)) in
      rw (t, sets-eq (numbers cs) table 0 (omega (arith, p.0, p.1))) (get_or-append (numbers cs) _ 0 j (omega (arith, p.0)))

  -- the table after a row has the start and the stop of each cell, which stand in the row
  pub cell-in-table : (i : ℕ) → i < count
      → (get_or (table_after sep last s table) (2 * i) 0 ≡ (place_at (line_of sep last s).cells i).start)
      × (get_or (table_after sep last s table) (2 * i + 1) 0 ≡ (place_at (line_of sep last s).cells i).stop)
      × ((place_at (line_of sep last s).cells i).start ≤ (place_at (line_of sep last s).cells i).stop)
      × ((place_at (line_of sep last s).cells i).stop ≤ end)
  cell-in-table i h =
      let p = places-inside sep last s e in
      let cs = (line_of sep last s).cells in
      let o = order-at p.2 i (omega (arith, p.0)) in
      (in_table (2 * i) (omega arith) ∙ start-at cs i, in_table (2 * i + 1) (omega arith) ∙ stop-at cs i, o.1, o.2)
