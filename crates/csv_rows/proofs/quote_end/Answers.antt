use mathlib.Core.Path.{◌≡◌, refl, sym, ◌∙◌}
use Prim.Native.Nat.{◌+◌, ◌-◌, ◌≤◌, ◌<◌}
use lib.ListN.{length, drop}
use Rattle.csv_rows.specs.Reader.{inner_len}
use Rattle.csv_rows.proofs.Laws.{is-inside, quote-open, quote-shut, quote-two}
use borrow.Author.Rules.{rules}
use native.Mathlib.Omega.{arith}
use Rattle.csv_rows.proofs.quote_end.Goals as goal

inside : (c : goal.Then-is_at) → c.byte_end-e.result + 1 < length c.args.s.now
inside c = is-inside 34 _ _ (sym c.is_at.ensures ∙ c.if-is_at.true)

pub loop-i-init : goal.loop-i-init
loop-i-init c = (refl, c.requires)

pub byte_end-e-requires : goal.byte_end-e-requires
byte_end-e-requires c = c.loop-i.invariant.1

pub overflow_add-i : goal.overflow_add-i
overflow_add-i c = let h = inside c in omega arith

pub loop-i-smaller : goal.loop-i-smaller
loop-i-smaller c = let h = inside c in let e = c.byte_end-e.ensures in omega arith

pub loop-i-preserved : goal.loop-i-preserved
loop-i-preserved c =
    let a = c.args in
    let h = inside c in
    (quote-two a.s.now c.loop-i.i c.byte_end-e.result c.byte_end-e.ensures (sym c.is_at.ensures ∙ c.if-is_at.true) ∙ c.loop-i.invariant.0, omega arith)

pub returns-else-is_at : goal.returns-else-is_at
returns-else-is_at c =
    let a = c.args in
    quote-shut a.s.now c.loop-i.i c.byte_end-e.result c.byte_end-e.ensures (sym c.is_at.ensures ∙ c.if-is_at.false) ∙ c.loop-i.invariant.0

pub returns-else-e-s : goal.returns-else-e-s
returns-else-e-s c =
    let a = c.args in
    quote-open a.s.now c.loop-i.i c.byte_end-e.result c.byte_end-e.ensures c.if-e-s.false ∙ c.loop-i.invariant.0
