use mathlib.Core.Path.{◌≡◌, ap, ◌∙◌}
use native.Mathlib.Omega.{arith}
use Prim.Native.Nat.{ℕ, ◌+◌, ◌*◌, ◌/◌, ◌%◌}
use lib.ListN.{get_or}
use Rattle.days.specs.Table.{table}
use Rattle.days.specs.Ways.{by_table}
use Rattle.days.proofs.Counts.{to-most}
use Rattle.days.proofs.Table.{entry-is}
use Rattle.days.proofs.Engines.{months-are}
use Rattle.days.proofs.by_table.Goals as goal
use Rattle.days.proofs.by_table.Goals.{After-entry}

-- the entry's place, counted by four years and by years
place : (y m : ℕ) → y % 400 / 4 * 48 + (y % 4 * 12 + m) ≡ y % 400 * 12 + m
place y m = omega arith

found : (c : After-entry) → c.entry.result ≡ get_or table (c.args.year % 400 * 12 + c.args.month) 0
found c = c.entry.ensures ∙ ap (λ (i : ℕ). get_or table i 0) (place c.args.year c.args.month)

pub overflow_add-result : goal.overflow_add-result
overflow_add-result c =
    let y = c.args.year in
    let m = c.args.month in
    let e = found (goal.at.overflow_add-result c).After-entry ∙ entry-is (y % 400 * 12 + m) (omega arith) ∙ months-are (y % 400) m (omega arith) in
    record { fits = omega (arith, e, to-most (y % 400) m) }

pub returns : goal.returns
unfolding by_table
returns c =
    let y = c.args.year in
    let m = c.args.month in
    let e = found (goal.at.returns c).After-entry ∙ entry-is (y % 400 * 12 + m) (omega arith) ∙ months-are (y % 400) m (omega arith) in
    (omega (arith, found (goal.at.returns c).After-entry), omega (arith, e, to-most (y % 400) m))
