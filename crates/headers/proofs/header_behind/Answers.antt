use Prim.Native.Nat.{ℕ}
use Rattle.headers.proofs.Rows.{rest-is}
use lib.ListN.{drop}
use mathlib.Core.Path.{ap, ◌∙◌}
use Rattle.headers.specs.Header.{header_behind, header_row}
use borrow.Author.Rules.{rules}
use Rattle.headers.proofs.header_behind.Goals as goal

pub returns : goal.returns
unfolding header_behind
returns c =
    let a = c.args in
    c.header_row.ensures
    ∙ ap (header_row c.mark_len-n.result a.last) (rest-is a.block.now c.mark_len-n.result)
    ∙ ap (λ (n : ℕ). header_row n a.last (drop n a.block.now)) c.mark_len-n.ensures.0
