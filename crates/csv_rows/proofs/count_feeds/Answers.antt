use mathlib.Core.Path.{◌≡◌, ap}
use Prim.Native.Nat.{◌+◌, ◌-◌, ◌%◌}
use native.Mathlib.Omega.{arith}
use lib.ListN.{length, drop}
use Rattle.csv_rows.specs.Bytes.{feeds}
use Rattle.csv_rows.proofs.Utf8.{feeds-most}
use Rattle.csv_rows.proofs.count_feeds.Goals.{After-feeds_from, else-loop-i-test, then-loop-i-test+else-end-i-gt64}
use Rattle.csv_rows.proofs.count_feeds.Goals as goal

-- behind the last whole block
counted : (c : After-feeds_from) → c.loop-i-test.n + c.feeds_from.result ≡ feeds c.args.s.now
counted c =
    let s = c.args.s.now in
    let end = length s - length s % 64 in
    let l = c.loop-i in
    elim c.loop-i-test.branch [
      | else-loop-i-test w ↦ let e : l.i ≡ end = omega arith in omega (arith, ap (λ k. feeds (drop k s)) e)
      | then-loop-i-test+else-end-i-gt64 w ↦ let e : l.i + 64 ≡ end = omega arith in omega (arith, ap (λ k. feeds (drop k s)) e)
    ]

pub overflow_add-result : goal.overflow_add-result
overflow_add-result c = let e = counted (goal.at.overflow_add-result c).After-feeds_from in omega (arith, feeds-most c.args.s.now)

pub returns : goal.returns
returns c = counted (goal.at.returns c).After-feeds_from
