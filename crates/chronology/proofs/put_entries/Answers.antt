use mathlib.Core.Path.{sym, ap, ◌∙◌}
use mathlib.Core.List.{List}
use Prim.Native.Nat.{◌+◌, ◌*◌}
use native.Mathlib.Omega.{arith}
use lib.IntN.{ℤ}
use lib.ListN.{drop}
use lib.Seq.{sets}
use Rattle.chronology.specs.Entries.{listed}
use Rattle.chronology.specs.Store.{store, contents}
use Rattle.chronology.proofs.Columns.{room, listed_next, listed-end}
use Rattle.chronology.proofs.put_entries.Goals as goal

pub entry_at-e-requires : goal.entry_at-e-requires
entry_at-e-requires c =
    (omega arith, c.requires.1.of_firsts, c.requires.1.of_lasts, c.requires.1.of_ids)

pub loop-i-preserved : goal.loop-i-preserved
loop-i-preserved c =
    let l = c.loop-i in
    let k = contents (store c.args.count.now c.args.firsts.now c.args.lasts.now c.args.ids.now) in
    ap (λ (o : List ℤ). sets o (3 * (l.i + 1)) (listed (drop (l.i + 1) k))) c.put_entry.ensures
    ∙ listed_next _ (room _ c.requires.1 c.requires.0) l.i l.out c.loop-i-test.true c.entry_at-e.ensures
    ∙ l.invariant

pub returns : goal.returns
returns c = sym (listed-end _ (room _ c.requires.1 c.requires.0) c.loop-i.i c.loop-i.out c.loop-i-test.false) ∙ c.loop-i.invariant
