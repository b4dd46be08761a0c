use mathlib.Core.Path.{◌≡◌, refl}
use Prim.Native.Nat.{suc, ◌+◌}
use native.Mathlib.Omega.{arith}
use lib.ListN.{length-set}
use Rattle.frames.specs.Lists.{row_at}
use borrow.Author.Rules.{rules}
use Rattle.frames.proofs.put_row.Goals as goal

pub bounds-table-k-2 : goal.bounds-table-k-2
bounds-table-k-2 c = simp length-set (omega arith)

pub bounds-table-k-3 : goal.bounds-table-k-3
bounds-table-k-3 c = simp length-set (omega arith)

pub bounds-table-k-4 : goal.bounds-table-k-4
bounds-table-k-4 c = simp length-set (omega arith)

pub returns : goal.returns
unfolding row_at
returns c =
    let e : c.args.k + 1 ≡ suc c.args.k = omega arith in
    let g : c.args.k + 2 ≡ suc (suc c.args.k) = omega arith in
    let h : c.args.k + 3 ≡ suc (suc (suc c.args.k)) = omega arith in
    record { behind = refl; bytes = rw (c.byte_at.ensures, c.byte_at-2.ensures, c.word_at.ensures, c.word_at-2.ensures, e, g, h) refl }
