use Rattle.findings.specs.Lines.{unread_line}
use Rattle.sheets.proofs.Goings.{going, in-64}
use native.Mathlib.Omega.{arith}
use Rattle.sheets.proofs.put_unread.Goals as goal

pub advanced-requires : goal.advanced-requires
advanced-requires c =
    let a = c.args in
    in-64 (unread_line a.why) a.out.now a.p (omega arith) c.write_unread-w.ensures.value c.write_unread-w.ensures.out_after (omega arith)

pub returns : goal.returns
returns c =
    let a = c.args in
    going (unread_line a.why) a.out.now a.p (omega arith) c.write_unread-w.ensures.value c.write_unread-w.ensures.out_after c.advanced.ensures
