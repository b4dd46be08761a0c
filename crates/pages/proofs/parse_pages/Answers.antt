use Rattle.pages.proofs.Answers.{fitting, leaves, keeps}
use mathlib.Core.Path.{sym, ◌∙◌}
use lib.ListN.{length}
use Rattle.std.proofs.lemmas.Result.{err_from_is_err_and}
use Rattle.pages.proofs.parse_pages.Goals as goal

pub store-requires : goal.store-requires
store-requires c = let f = fitting c.args.list.bytes.now c.args.list.table.now c.args.counts.now (length c.args.out.now) (sym c.decide.ensures ∙ c.in_ok-n.was) in (f.1, f.2)

pub returns : goal.returns
returns c = let q = sym c.decide.ensures ∙ c.in_ok-n.was in record { value = sym q; out_after = leaves c.args.list.bytes.now c.args.list.table.now c.args.counts.now c.args.out.now q c.store.ensures }

pub returns-in_err-n : goal.returns-in_err-n
returns-in_err-n c =
    let p = err_from_is_err_and c.from_residual.result c.from_residual.ensures.1 in
    let q = sym c.decide.ensures ∙ c.in_err-n.was in
    record { value = rw (p.1, p.2) (sym q); out_after = keeps c.args.list.bytes.now c.args.list.table.now c.args.counts.now c.args.out.now q }
