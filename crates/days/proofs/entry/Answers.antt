use mathlib.Core.Path.{ap, ◌∙◌}
use Prim.Native.Nat.{ℕ}
use lib.ListN.{get_or}
use mathlib.Core.List.{List}
use Rattle.days.proofs.Table.{in-four-years}
use borrow.Author.Rules.{rules}
use Rattle.days.proofs.entry.Goals as goal

pub returns : goal.returns
returns c =
    let z = c.args in
    ap (λ (l : List ℕ). get_or l z.j 0) c.four_years-months.ensures ∙ in-four-years z.q z.j (search rules)
