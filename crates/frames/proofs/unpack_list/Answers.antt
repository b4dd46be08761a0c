use mathlib.Core.Path.{sym, ap}
use Prim.Native.Nat.{ℕ, ◌+◌}
use native.Mathlib.Omega.{arith}
use Rattle.puts.proofs.Puts.{as-text}
use Rattle.frames.specs.Lists.{text_of, table_of}
use Rattle.frames.proofs.Places.{list-starts, rows_fit, text_behind, table-behind}
use borrow.Author.Rules.{rules}
use Rattle.frames.proofs.unpack_list.Goals as goal

pub overflow_add-at : goal.overflow_add-at
overflow_add-at c =
    let l = list-starts c.requires.0 c.args.at c.args.m c.args.k c.requires.1 c.requires.2 c.requires.3 in
    omega arith

pub put_texts-j-requires : goal.put_texts-j-requires
put_texts-j-requires c =
    (rw c.byte_at-n.ensures c.requires.1, c.requires.0.for_text, omega (arith, c.requires.2))

pub overflow_add-at-2 : goal.overflow_add-at-2
overflow_add-at-2 c =
    let l = list-starts c.requires.0 c.args.at c.args.m c.args.k c.requires.1 c.requires.2 c.requires.3 in
    omega arith

pub put_rows-requires : goal.put_rows-requires
put_rows-requires c =
    let r = rows_fit c.requires.0 c.args.at c.args.m c.args.k c.requires.1 c.requires.2 c.requires.3 in
    (rw c.byte_at-n.ensures (omega (arith, c.requires.1, c.requires.0.small)), rw c.byte_at-n.ensures r)

pub returns : goal.returns
returns c =
    let e = sym c.byte_at-n.ensures in
    let a = c.args in
    let p = as-text (ap (λ (n : ℕ). text_of a.f.now (a.at + 1) n) e) c.put_texts-j.ensures in
    let q = as-text (ap (λ (n : ℕ). table_of a.f.now (a.at + 1) n) e) c.put_rows.ensures in
    let t = text_behind c.requires.0 a.at a.m a.k c.requires.1 c.requires.2 c.requires.3 in
    let u = table-behind c.requires.0 a.at a.m a.k c.requires.1 c.requires.2 c.requires.3 in
    record { put = p; put_2 = q; text_bound = (omega (arith, t, p.behind), omega (arith, u, q.behind)) }
